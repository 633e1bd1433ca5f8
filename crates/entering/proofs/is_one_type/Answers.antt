-- `is_one_type` meets its contract.
use mathlib.Core.Path.{ap, ◌∙◌}
use Rattle.terms.specs.Terms.{is_one_type}
use Rattle.entering.proofs.is_one_type.Goals as goal

pub returns : goal.returns
returns c = c.is_one_type.ensures ∙ ap is_one_type c.bytes_at.ensures
