-- `open_by` meets its contract.
use mathlib.Core.Path.{◌∙◌}
use Rattle.node.proofs.answers.open_by.Goals as goal

pub returns-in-Err : goal.returns-in-Err
returns-in-Err c = c.refused.ensures ∙ rw (← c.is_awaited.ensures, ← c.under_key.ensures, c.in-Err.is)

pub returns-in-Ok : goal.returns-in-Ok
returns-in-Ok c = c.silent.ensures ∙ rw (c.opened.ensures, ← c.is_awaited.ensures, ← c.under_key.ensures, c.in-Ok.is)
