-- `type_of` meets its contract.
use mathlib.Core.Path.{ap, ◌∙◌}
use mathlib.Core.List.{List}
use Prim.Native.Nat.{ℕ}
use lib.ListN.{take, drop}
use Rattle.octets.specs.Numbers.{number_of}
use Rattle.entering.proofs.asking.type_of.Goals as goal

pub returns : goal.returns
returns c = c.number16.ensures ∙ ap (λ (l : List ℕ). number_of (take 2 (drop 0 l))) c.bytes_at.ensures
