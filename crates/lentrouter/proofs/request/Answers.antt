-- `request` meets its contract: it stops or goes on, then the bytes.
use mathlib.Core.Path.{sym, ap₂, ◌∙◌}
use Rattle.object.specs.declared.family.Family.TheVariants.{Misauth}
use Rattle.inplace.proofs.SpotLaws.{router_many}
use Rattle.entering.specs.Seated.{seat_of}
use Rattle.entering.specs.Request.{requested}
use Rattle.entering.proofs.RequestLaws.{request_now}
use Rattle.lentrouter.proofs.TurnedLaws.{not_stopped, router_stopped, turn_left}
use Rattle.lentrouter.proofs.request.Goals as goal

pub returns-in-Err : goal.returns-in-Err
unfolding requested
returns-in-Err c = router_stopped Misauth _ c.limit.ensures (c.begin.ensures.stops _ c.in-Err.is) (c.begin.ensures.stays _ c.in-Err.is)

pub returns : goal.returns
returns c = let on = c.begin.ensures.goes_on (not_stopped _ c.in_default.not-Err) in
    turn_left on.fits on.lapsed (rw c.number-at.ensures at c.end_turn.ensures)
    (request_now _ _ _ _ _ (rw c.limit.ensures at on.enough) on.later
    (on.lapsed.holds on.fits)
    (c.turn_at-t.ensures.leaves _
    (record {
      same = sym c.settings-settings.ensures;
      whole = router_many _;
      found = sym (c.seat_of-seat.ensures ∙ ap₂ seat_of c.find.ensures c.free_place.ensures);
      here = sym (rw c.number-at.ensures at c.place_of-p.ensures);
    })))
