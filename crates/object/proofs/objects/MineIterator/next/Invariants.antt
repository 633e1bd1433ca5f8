-- `next`'s loop passes over what is not asked for: those that are left stay those at the call.
use mathlib.Core.Path.{◌≡◌}
use lib.ListN.{length}
use Rattle.object.specs.Objects.{mine_left, objects_left}
use Rattle.object.proofs.objects.MineIterator.next.Given as goal

abbrev pub invariant-loop-o : goal.invariant-loop-o
invariant-loop-o l = mine_left l.self ≡ mine_left l.fn.self

abbrev pub decreases-loop-o : goal.decreases-loop-o
decreases-loop-o l = length (objects_left l.self.objects)
