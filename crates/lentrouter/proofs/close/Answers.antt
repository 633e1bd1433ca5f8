-- `close` meets its contract: it stops or goes on, then the bytes.
use mathlib.Core.Path.{refl}
use Rattle.object.specs.declared.family.Family.TheVariants.{Misp}
use Rattle.inplace.proofs.SpotLaws.{router_many}
use Rattle.router.specs.Close.{closing}
use Rattle.router.proofs.CloseLaws.{close_turned}
use Rattle.lentrouter.proofs.TurnedLaws.{not_stopped, router_stopped, turn_left}
use Rattle.lentrouter.proofs.close.Goals as goal

pub returns-in-Err : goal.returns-in-Err
unfolding closing
returns-in-Err c = router_stopped Misp _ c.limit.ensures (c.begin.ensures.stops _ c.in-Err.is) (c.begin.ensures.stays _ c.in-Err.is)

pub returns : goal.returns
returns c = let on = c.begin.ensures.goes_on (not_stopped _ c.in_default.not-Err) in
    turn_left on.fits on.lapsed c.end_turn.ensures
    (close_turned _ _ _ _ (rw c.limit.ensures at on.enough) on.later (router_many _)
    (on.lapsed.holds on.fits) c.find.ensures c.place_number-i.ensures c.place_of-p.ensures
    (rw c.settings-settings.ensures at c.close_turn-t.ensures) refl)
