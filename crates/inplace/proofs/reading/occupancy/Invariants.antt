-- `occupancy` meets its contract. The invariant: the word so far is that of the places from i on.
use Prim.Native.Nat.{◌≤◌}
use mathlib.Core.Path.{◌≡◌}
use lib.ListN.{drop}
use Rattle.places.specs.State.{word_of}
use Rattle.storedrouter.specs.Router.{router_from}
use Rattle.inplace.proofs.reading.occupancy.Given as goal

abbrev pub invariant-loop-i : goal.invariant-loop-i
invariant-loop-i l = (l.i ≤ 64) × (l.word ≡ word_of (drop l.i (router_from l.state).places))
