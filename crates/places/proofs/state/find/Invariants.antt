-- `find` meets its contract. The invariant: the search of all is the search from i on.
use Prim.Native.Nat.{◌≤◌}
use mathlib.Core.Path.{◌≡◌}
use lib.ListN.{length}
use Rattle.places.specs.State.{find_of}
use Rattle.places.proofs.FindLaws.{rest}
use Rattle.places.proofs.state.find.Given as goal

abbrev pub invariant-loop-i : goal.invariant-loop-i
invariant-loop-i l = (l.i ≤ 64) × (length l.r.places ≡ 64) × (find_of l.r.places l.address ≡ rest l.address l.r.places l.i)
