-- `leave` meets its contract, exit by exit.
use Rattle.message.proofs.BeginLaws.{room_small, room_back}
use Rattle.leaving.specs.Leave.{leaving}
use Rattle.leaving.proofs.LeavingLaws.{leave_then}
use Rattle.leaving.proofs.leave.Goals as goal

pub returns-then-out-limit : goal.returns-then-out-limit
unfolding leaving
returns-then-out-limit c = room_small _ _ (rw c.limit.ensures at c.if-out-limit.true) c.refused.ensures

pub returns-then-clock-n : goal.returns-then-clock-n
unfolding leaving
returns-then-clock-n c = room_back _ _ _ (rw c.limit.ensures at c.if-out-limit.false) c.if-clock-n.true c.refused-then-clock-n.ensures

pub returns : goal.returns
returns c = leave_then _ _ _ c.limit.ensures c.if-out-limit.false c.if-clock-n.false c.lapse.ensures c.leave_now.ensures
