-- `put_all`'s loop: the first `i` objects are put.
use Rattle.object.specs.Family.{header_of}
use Rattle.message.specs.Laid.{Lays}
use Rattle.message.proofs.writing.put_all.Given as goal

abbrev pub invariant-loop-i : goal.invariant-loop-i
invariant-loop-i l = Lays l.objects 0 l.i l.fn.out (header_of l.fn.f) l.out l.at
