-- `success` meets its contract, exit by exit.
use mathlib.Core.Path.{sym, ◌∙◌}
use Rattle.node.specs.Answers.{succeeded}
use Rattle.message.proofs.BeginLaws.{clock_behind}
use Rattle.node.proofs.AnswersLaws.{opens_refused, opens_taken}
use Rattle.node.proofs.answers.success.Goals as goal

pub returns-then-clock-n : goal.returns-then-clock-n
unfolding succeeded
returns-then-clock-n c = c.refused.ensures ∙ clock_behind _ _ c.if-clock-n.true

pub returns-in-Err : goal.returns-in-Err
returns-in-Err c = c.refused-in-Err.ensures
    ∙ opens_refused _ _ _ c.if-clock-n.false c.lapse-node.ensures (sym c.read_success.ensures ∙ c.in-Err.is) c.after_refusal.ensures

pub returns-in-Ok : goal.returns-in-Ok
returns-in-Ok c = opens_taken _ _ _ c.if-clock-n.false c.lapse-node.ensures (sym c.read_success.ensures ∙ c.in-Ok.is) c.open_by.ensures
