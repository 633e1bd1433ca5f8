use Rattle.std.proofs.Common.{sym, ◌∙◌}
use Rattle.asked.proofs.ArgumentLaws.{fixed_none, fixed_some}
use Rattle.asked.proofs.arguments.fixed_at.Goals as goal

pub returns-in_err-n : goal.returns-in_err-n
returns-in_err-n g c = c.from_residual.ensures ∙ sym (fixed_none g.row.N _ c.in_err-n.ensures)

pub returns : goal.returns
returns g c = c.then_some.ensures ∙ fixed_some g.row.N _ c.in_ok-n.ensures
