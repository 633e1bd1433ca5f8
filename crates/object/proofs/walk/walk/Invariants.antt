-- `walk`'s loop: the walk that is left ends as the walk over the body does.
use mathlib.Core.Path.{◌≡◌}
use lib.ListN.{length}
use Rattle.object.specs.Objects.{walk_left, objects_left}
use Rattle.object.specs.Walk.{walk_of}
use Rattle.object.proofs.walk.walk.Given as goal

abbrev pub invariant-loop : goal.invariant-loop
invariant-loop l = (walk_left l.objects).ends ≡ (walk_of l.fn.f l.body).ends

abbrev pub decreases-loop : goal.decreases-loop
decreases-loop l = length (objects_left l.objects)
