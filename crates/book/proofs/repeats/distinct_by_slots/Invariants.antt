-- `distinct_by_slots` meets its contract.
use mathlib.Core.Path.{◌≡◌}
use Rattle.book.proofs.SlotLaws.{Placed}
use Rattle.book.proofs.repeats.distinct_by_slots.Given as goal

abbrev pub invariant-loop-e : goal.invariant-loop-e
invariant-loop-e l =
    (goal.iterator-loop-e).can_next l.e-iterator
    × (goal.iterator-loop-e).is_finite l.e-iterator
    × (l.at ≡ l.e-iterator.section.at)
    × Placed l.fn.entries l.e-iterator l.slots
