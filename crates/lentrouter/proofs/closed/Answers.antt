-- `closed` meets its contract: it stops or goes on, then the bytes.
use mathlib.Core.Path.{refl}
use Rattle.storedrouter.specs.Router.{router_from}
use Rattle.inplace.proofs.SpotLaws.{router_many}
use Rattle.message.proofs.BeginLaws.{clock_behind}
use Rattle.router.specs.Close.{closed}
use Rattle.router.proofs.CloseLaws.{closed_turned}
use Rattle.lentrouter.proofs.TurnedLaws.{not_stopped, router_stopped_quietly, turn_ended}
use Rattle.lentrouter.proofs.closed.Goals as goal

pub returns-in-Err : goal.returns-in-Err
unfolding closed
returns-in-Err c = let a = c.args in
    let r = router_from a.state.now in
    router_stopped_quietly (closed r a.clock a.from.now a.message.now) (c.begin.ensures.stops _ c.in-Err.is) (c.begin.ensures.stays _ c.in-Err.is)
    (λ h. clock_behind _ _ h)

pub returns : goal.returns
returns c = let a = c.args in
    let r = router_from a.state.now in
    let on = c.begin.ensures.goes_on (not_stopped _ c.in_default.not-Err) in
    turn_ended (closed r a.clock a.from.now a.message.now) on.fits on.lapsed c.end_turn.ensures
    (closed_turned r a.clock a.from.now a.message.now on.later (router_many a.state.now) (on.lapsed.holds on.fits)
    c.find.ensures c.place_number-i.ensures c.place_of-p.ensures (rw c.settings-settings.ensures at c.closed_turn-t.ensures) refl)
