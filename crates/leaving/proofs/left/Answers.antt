-- `left` meets its contract, exit by exit.
use mathlib.Core.Path.{sym, ◌∙◌}
use Rattle.leaving.specs.Leave.{left}
use Rattle.message.proofs.BeginLaws.{clock_behind}
use Rattle.leaving.proofs.LeftLaws.{left_unread, left_read}
use Rattle.leaving.proofs.left.Goals as goal

pub returns-then-clock-n : goal.returns-then-clock-n
unfolding left
returns-then-clock-n c = c.refused.ensures ∙ clock_behind _ _ c.if-clock-n.true

pub returns-in-Err : goal.returns-in-Err
returns-in-Err c = c.refused-in-Err.ensures
    ∙ left_unread _ _ _ c.if-clock-n.false c.lapse-node.ensures (sym c.read_terminating.ensures ∙ c.in-Err.is)

pub returns-in-Ok : goal.returns-in-Ok
returns-in-Ok c = left_read _ _ _ c.if-clock-n.false c.lapse-node.ensures (sym c.read_terminating.ensures ∙ c.in-Ok.is) c.close_by.ensures
