-- `find` meets its contract. The invariant: the search of all is the search from i on.
use Prim.Native.Nat.{◌≤◌}
use mathlib.Core.Path.{◌≡◌}
use Rattle.places.specs.State.{find_of}
use Rattle.places.proofs.FindLaws.{rest}
use Rattle.storedrouter.specs.Router.{router_from}
use Rattle.inplace.specs.Sought.{Sought}
use Rattle.inplace.proofs.reading.find.Given as goal

abbrev pub invariant-loop-i : goal.invariant-loop-i
invariant-loop-i l = (l.i ≤ 64) × Sought l.address l.sought × (find_of (router_from l.state).places l.address ≡ rest l.address (router_from l.state).places l.i)
