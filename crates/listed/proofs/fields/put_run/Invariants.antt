-- `put_run` meets its contract. The loop's invariant: the objects that came are put.
use Rattle.told.specs.Print.{Puts}
use Rattle.listed.proofs.TextLaws.{run_text}
use Rattle.listed.proofs.fields.put_run.Given as goal

abbrev pub invariant-loop-o : goal.invariant-loop-o
invariant-loop-o l = Puts (run_text l.kind l.yielded) l.initial.text l.at l.text l.next
