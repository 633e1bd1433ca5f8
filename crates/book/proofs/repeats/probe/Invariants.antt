-- `probe` meets its contract.
use Prim.Native.Nat.{ℕ, ◌<◌}
use mathlib.Core.Path.{◌≡◌}
use lib.ListN.{length}
use Rattle.book.specs.Slots.{slot_at, Passes}
use Rattle.book.proofs.repeats.probe.Given as goal

abbrev pub invariant-loop : goal.invariant-loop
invariant-loop l = (l.slot ≡ slot_at (length l.slots) l.key l.counter) × ((x : ℕ) → x < l.counter → Passes l.entries.section.counted l.entries.book.now l.slots l.key x)
