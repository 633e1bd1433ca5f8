-- `put_hex` meets its contract. The loop's invariant: the first `i` bytes are put.
use Prim.Native.Nat.{◌-◌}
use lib.ListN.{length}
use Rattle.script.proofs.PrintLaws.{Printing}
use Rattle.script.proofs.printing.put_hex.Given as goal

abbrev pub invariant-loop-i : goal.invariant-loop-i
invariant-loop-i l = Printing l.value l.initial.out l.at l.out l.i

abbrev pub decreases-loop-i : goal.decreases-loop-i
decreases-loop-i l = length l.value - l.i
