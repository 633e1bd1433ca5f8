-- `failure` meets its contract, exit by exit.
use mathlib.Core.Path.{sym, ◌∙◌}
use Rattle.node.specs.Answers.{failed}
use Rattle.message.proofs.BeginLaws.{clock_behind}
use Rattle.node.proofs.AnswersLaws.{failure_refused, failure_ends, failure_other}
use Rattle.node.proofs.answers.failure.Goals as goal

pub returns-then-clock-n : goal.returns-then-clock-n
unfolding failed
returns-then-clock-n c = c.refused.ensures ∙ clock_behind _ _ c.if-clock-n.true

pub returns-in-Err : goal.returns-in-Err
returns-in-Err c = c.refused-in-Err.ensures
    ∙ failure_refused _ _ _ c.if-clock-n.false c.lapse-node.ensures (sym c.read_failure.ensures ∙ c.in-Err.is)

pub returns-then-is_awaited : goal.returns-then-is_awaited
returns-then-is_awaited c = c.silent.ensures
    ∙ failure_ends _ _ _ c.if-clock-n.false c.lapse-node.ensures (sym c.read_failure.ensures ∙ c.in-Ok.is)
    (sym c.is_awaited.ensures ∙ c.if-is_awaited.true) c.with_waiting.ensures c.no_waiting.ensures

pub returns-else-is_awaited : goal.returns-else-is_awaited
returns-else-is_awaited c = c.refused-else-is_awaited.ensures
    ∙ failure_other _ _ _ c.if-clock-n.false c.lapse-node.ensures (sym c.read_failure.ensures ∙ c.in-Ok.is)
    (sym c.is_awaited.ensures ∙ c.if-is_awaited.false)
