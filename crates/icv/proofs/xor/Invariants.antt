-- The first `i` bytes are those of the definition.
use mathlib.Core.Path.{◌≡◌}
use lib.ListN.{length, take}
use Rattle.icv.specs.Icv.{xored}
use Rattle.icv.proofs.xor.Given as goal

abbrev pub invariant-loop-i : goal.invariant-loop-i
invariant-loop-i l = (length l.t ≡ 16) × (take l.i l.t ≡ take l.i (xored l.a l.b))
