-- `same` meets its contract. The loop's invariant: the two are the same exactly if they are from `i` on.
use mathlib.Core.Path.{◌≡◌}
use Rattle.octets.specs.Same.{same_bytes}
use Rattle.octets.proofs.SameLaws.{from}
use Rattle.octets.proofs.same.same.Given as goal

abbrev pub invariant-loop-i : goal.invariant-loop-i
invariant-loop-i l = same_bytes l.a l.b ≡ from l.a l.b l.i
