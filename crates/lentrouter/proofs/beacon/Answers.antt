-- `beacon` meets its contract: it stops or goes on, then the bytes.
use mathlib.Core.Path.{refl}
use Rattle.object.specs.declared.family.Family.TheVariants.{Misp}
use Rattle.router.specs.Beacon.{beaconed}
use Rattle.router.proofs.BeaconLaws.{beacon_sent}
use Rattle.lentrouter.proofs.TurnedLaws.{not_stopped, router_stopped, broadcast_left}
use Rattle.lentrouter.proofs.beacon.Goals as goal

pub returns-in-Err : goal.returns-in-Err
unfolding beaconed
returns-in-Err c = router_stopped Misp _ c.limit.ensures (c.begin.ensures.stops _ c.in-Err.is) (c.begin.ensures.stays _ c.in-Err.is)

pub returns : goal.returns
returns c = let on = c.begin.ensures.goes_on (not_stopped _ c.in_default.not-Err) in
    broadcast_left c.write_beacon-w.result on.fits on.lapsed c.wrote.ensures
    (beacon_sent _ _ _ (rw c.limit.ensures at on.enough) on.later (on.lapsed.holds on.fits)
    (rw c.settings-settings.ensures at c.write_beacon-w.ensures) refl)
