-- `is_listed` meets its contract. The loop's invariant: the number stands in the list exactly if it does from the i-th on.
use Prim.Native.Nat.{◌≤◌, ◌/◌}
use mathlib.Core.Path.{◌≡◌}
use lib.ListN.{length}
use Rattle.terms.specs.Terms.{lists}
use Rattle.terms.proofs.TermsLaws.{lists_from}
use Rattle.terms.proofs.is_listed.Given as goal

abbrev pub invariant-loop-i : goal.invariant-loop-i
invariant-loop-i l = (l.i ≤ length l.list / 2) × (lists l.x l.list ≡ lists_from l.x (length l.list / 2) l.list l.i)
