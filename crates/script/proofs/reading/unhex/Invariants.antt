-- `unhex` meets its contract. The loop's invariant: the first `i` bytes are read.
use Prim.Native.Nat.{◌-◌}
use Rattle.script.proofs.HexLaws.{Reading}
use Rattle.script.proofs.reading.unhex.Given as goal

abbrev pub invariant-loop-i : goal.invariant-loop-i
invariant-loop-i l = Reading l.word l.initial.out l.n l.out l.i

abbrev pub decreases-loop-i : goal.decreases-loop-i
decreases-loop-i l = l.n - l.i
