-- `distinct_by_pairs` meets its contract.
use mathlib.Core.Path.{◌≡◌}
use Rattle.book.specs.Whole.{distinct}
use Rattle.book.specs.Left.{keys_left}
use Rattle.book.proofs.repeats.distinct_by_pairs.Given as goal

abbrev pub invariant-loop-e : goal.invariant-loop-e
invariant-loop-e l =
    (goal.iterator-loop-e).can_next l.entries × (goal.iterator-loop-e).is_finite l.entries × (distinct (keys_left l.fn.entries) ≡ distinct (keys_left l.entries))
