-- `distinct_by_slots` meets its contract.
use native.Mathlib.Omega.{arith}
use mathlib.Core.Path.{sym}
use Rattle.book.proofs.SlotLaws.{turn_taken, turn_within}
use Rattle.book.proofs.repeats.distinct_by_slots.Goals as goal

-- the key repeats one before it
pub returns-in-Taken : goal.returns-in-Taken
returns-in-Taken c = sym (turn_taken c.args.entries c.loop-e.invariant.3 c.in-Some.ensures.steps c.bytes_at.ensures c.probe.ensures c.in-Taken.is)

-- the slot is one of the slots
pub offset_bounds-slots-slot : goal.offset_bounds-slots-slot
offset_bounds-slots-slot c =
    let n = turn_within c.args.entries c.loop-e.invariant.3 c.in-Some.ensures.steps c.bytes_at.ensures c.probe.ensures c.in-Free.is in
    omega (arith, n, c.loop-e.auto.slots, c.requires.few)

pub bounds-slots-slot : goal.bounds-slots-slot
bounds-slots-slot c = turn_within c.args.entries c.loop-e.invariant.3 c.in-Some.ensures.steps c.bytes_at.ensures c.probe.ensures c.in-Free.is
