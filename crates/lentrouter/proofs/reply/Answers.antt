-- `reply` meets its contract: it stops or goes on, then the bytes.
use mathlib.Core.Path.{refl}
use Rattle.object.specs.declared.family.Family.TheVariants.{Misp}
use Rattle.settling.specs.Reply.{replied}
use Rattle.settling.proofs.ReplyLaws.{reply_turned}
use Rattle.lentrouter.proofs.TurnedLaws.{not_stopped, router_stopped, turn_left}
use Rattle.lentrouter.proofs.reply.Goals as goal

pub returns-in-Err : goal.returns-in-Err
unfolding replied
returns-in-Err c = router_stopped Misp _ c.limit.ensures (c.begin.ensures.stops _ c.in-Err.is) (c.begin.ensures.stays _ c.in-Err.is)

pub returns : goal.returns
returns c = let on = c.begin.ensures.goes_on (not_stopped _ c.in_default.not-Err) in
    turn_left on.fits on.lapsed c.end_turn.ensures
    (reply_turned _ _ _ _ (rw c.limit.ensures at on.enough) on.later (on.lapsed.holds on.fits)
    c.byte_at-i.ensures c.place_of-p.ensures (rw c.settings-settings.ensures at c.turn_at-t.ensures) refl)
