-- `close_by` meets its contract.
use mathlib.Core.Path.{◌∙◌}
use Rattle.leaving.proofs.close_by.Goals as goal

pub returns-in-Err : goal.returns-in-Err
returns-in-Err c = c.refused.ensures ∙ rw (← c.is_session.ensures, ← c.under_key.ensures, c.in-Err.is)

pub returns-in-Ok : goal.returns-in-Ok
returns-in-Ok c = c.silent.ensures
    ∙ rw (c.with_session.ensures, c.no_session.ensures, ← c.is_session.ensures, ← c.under_key.ensures, c.in-Ok.is)
