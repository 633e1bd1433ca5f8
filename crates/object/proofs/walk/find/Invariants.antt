-- `find`'s loop: what was found, with the one of the objects that are left, is the one that counts.
use lib.ListN.{length}
use Rattle.object.specs.Objects.{objects_left}
use Rattle.object.specs.Walk.{walk_of}
use Rattle.object.proofs.ChainLaws.{Finding}
use Rattle.object.proofs.walk.find.Given as goal

abbrev pub invariant-loop-o : goal.invariant-loop-o
invariant-loop-o l = Finding l.fn.f l.wanted (walk_of l.fn.f l.body).items l.found (objects_left l.objects)

abbrev pub decreases-loop-o : goal.decreases-loop-o
decreases-loop-o l = length (objects_left l.objects)
