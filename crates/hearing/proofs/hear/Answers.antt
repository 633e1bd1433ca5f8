-- `hear` meets its contract, exit by exit.
use mathlib.Core.Path.{sym, ◌∙◌}
use Rattle.message.proofs.BeginLaws.{room_small, room_back}
use Rattle.hearing.specs.Hear.{heard}
use Rattle.hearing.proofs.HearLaws.{hear_refused, hear_read}
use Rattle.hearing.proofs.hear.Goals as goal

pub returns-then-out-limit : goal.returns-then-out-limit
unfolding heard
returns-then-out-limit c = room_small _ _ (rw c.limit.ensures at c.if-out-limit.true) c.refused.ensures

pub returns-then-clock-n : goal.returns-then-clock-n
unfolding heard
returns-then-clock-n c = room_back _ _ _ (rw c.limit.ensures at c.if-out-limit.false) c.if-clock-n.true c.refused-then-clock-n.ensures

pub returns-in-Err : goal.returns-in-Err
returns-in-Err c = hear_refused _ _ _ _ _ c.limit.ensures c.if-out-limit.false c.if-clock-n.false c.lapse-node.ensures
    (sym c.read_beacon.ensures ∙ c.in-Err.is) c.refused-in-Err.ensures

pub returns-in-Ok : goal.returns-in-Ok
returns-in-Ok c = hear_read _ _ _ _ _ c.limit.ensures c.if-out-limit.false c.if-clock-n.false c.lapse-node.ensures
    (sym c.read_beacon.ensures ∙ c.in-Ok.is) c.answer_beacon.ensures
