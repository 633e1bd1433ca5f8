-- `is_for` meets its contract.
use mathlib.Core.Path.{ap, ◌∙◌}
use mathlib.Core.List.{List}
use Prim.Native.Nat.{ℕ}
use Rattle.octets.specs.Same.{same_bytes}
use Rattle.settling.proofs.is_for.Goals as goal

pub returns : goal.returns
returns c = c.same.ensures ∙ ap (λ (l : List ℕ). same_bytes l c.args.attempt.check) c.bytes_at.ensures
