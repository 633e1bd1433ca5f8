-- `put_decimal` meets its contract. The loop's invariant: the digits past `first` are put, and `left` is what is left of the number.
use Rattle.script.proofs.PrintLaws.{Spelling}
use Rattle.script.proofs.printing.put_decimal.Given as goal

abbrev pub invariant-loop-left : goal.invariant-loop-left
invariant-loop-left l = Spelling l.n l.text l.first l.left

abbrev pub decreases-loop-left : goal.decreases-loop-left
decreases-loop-left l = l.first
