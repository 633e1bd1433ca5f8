-- `bytes` meets its contract: settings and clock, then the places. The invariant: the places below i are put past them.
use Prim.Native.Nat.{◌≤◌}
use mathlib.Core.Path.{◌≡◌}
use lib.ListN.{length}
use Rattle.storedrouter.proofs.RouterLaws.{Placing}
use Rattle.storedrouter.proofs.router_state.bytes.Given as goal

abbrev pub invariant-loop-i : goal.invariant-loop-i
invariant-loop-i l = (l.i ≤ 64) × (length l.r.places ≡ 64) × (length l.t ≡ 6075) × Placing l.r.places l.initial.t l.t l.i
