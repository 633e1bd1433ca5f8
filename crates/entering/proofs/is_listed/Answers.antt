-- `is_listed` meets its contract.
use mathlib.Core.Path.{ap, ◌∙◌}
use Rattle.terms.specs.Terms.{lists}
use Rattle.entering.proofs.is_listed.Goals as goal

pub returns : goal.returns
returns c = let a = c.args in
    c.is_listed.ensures ∙ ap (lists a.network) c.bytes_at.ensures
