-- `beacon` meets its contract: one law for each way.
use Rattle.message.proofs.BeginLaws.{room_small, room_back}
use Rattle.router.specs.Beacon.{beaconed}
use Rattle.router.proofs.BeaconLaws.{beacon_sent}
use Rattle.router.proofs.beacon.beacon.Goals as goal

pub returns-then-out-limit : goal.returns-then-out-limit
unfolding beaconed
returns-then-out-limit c = room_small _ _ (rw c.limit.ensures at c.if-out-limit.true) c.refused.ensures

pub returns-then-clock-r : goal.returns-then-clock-r
unfolding beaconed
returns-then-clock-r c = room_back _ _ _ (rw c.limit.ensures at c.if-out-limit.false) c.if-clock-r.true c.refused-then-clock-r.ensures

pub returns : goal.returns
returns c = beacon_sent _ _ _ (rw c.limit.ensures at c.if-out-limit.false) c.if-clock-r.false c.lapse-q.ensures c.write_beacon-w.ensures
    c.written.ensures
