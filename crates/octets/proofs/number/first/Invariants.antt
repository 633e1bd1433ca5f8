-- `first` meets its contract. The loop's invariant: `n` is the number that the first `i` bytes spell.
use Prim.Native.Nat.{◌-◌, ◌≤◌}
use mathlib.Core.Path.{◌≡◌}
use lib.ListN.{length, take}
use Rattle.octets.specs.Numbers.{number_of}
use Rattle.octets.proofs.number.first.Given as goal

abbrev pub invariant-loop-i : goal.invariant-loop-i
invariant-loop-i l = (l.i ≤ l.size) × (l.size ≤ 8) × (l.size ≤ length l.value) × (l.n ≡ number_of (take l.i l.value))
