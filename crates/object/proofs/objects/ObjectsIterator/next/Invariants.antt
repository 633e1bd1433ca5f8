-- `next`'s loop passes over padding: the walk that is left stays that at the call.
use mathlib.Core.Path.{◌≡◌}
use lib.ListN.{length}
use Rattle.object.specs.Objects.{walk_left}
use Rattle.object.proofs.objects.ObjectsIterator.next.Given as goal

abbrev pub invariant-loop-self : goal.invariant-loop-self
invariant-loop-self l = walk_left l.self ≡ walk_left l.fn.self

abbrev pub decreases-loop-self : goal.decreases-loop-self
decreases-loop-self l = length l.self.rest.now
