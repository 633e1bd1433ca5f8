-- `lapse` meets its contract. The invariant: the places below i have lapsed, byte by byte.
use Prim.Native.Nat.{◌≤◌}
use mathlib.Core.Path.{◌≡◌}
use lib.ListN.{length}
use Rattle.inplace.specs.Change.{lapsed_bytes}
use Rattle.inplace.proofs.LapseLaws.{Lapsing}
use Rattle.inplace.proofs.changing.lapse.Given as goal

abbrev pub invariant-loop-i : goal.invariant-loop-i
invariant-loop-i l = (l.i ≤ 64) × (length l.initial.state ≡ 6075) × (length l.state ≡ 6075) × Lapsing (lapsed_bytes l.clock l.window l.lifetime l.unit) l.initial.state l.state l.i
