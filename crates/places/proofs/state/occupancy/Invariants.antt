-- `occupancy` meets its contract. The invariant: the word so far is that of the places from i on.
use Prim.Native.Nat.{◌≤◌}
use mathlib.Core.Path.{◌≡◌}
use lib.ListN.{length, drop}
use Rattle.places.specs.State.{word_of}
use Rattle.places.proofs.state.occupancy.Given as goal

abbrev pub invariant-loop-i : goal.invariant-loop-i
invariant-loop-i l = (l.i ≤ 64) × (length l.r.places ≡ 64) × (l.word ≡ word_of (drop l.i l.r.places))
