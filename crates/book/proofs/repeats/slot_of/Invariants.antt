-- `slot_of` meets its contract.
use Prim.Native.Nat.{◌<◌}
use mathlib.Core.Path.{◌≡◌}
use lib.ListN.{drop}
use Rattle.book.specs.Slots.{mixed}
use Rattle.book.proofs.repeats.slot_of.Given as goal

abbrev pub invariant-loop-b : goal.invariant-loop-b
invariant-loop-b l = (l.h < 4294967296) × (mixed 0 l.key ≡ mixed l.h (drop l.b-index l.key))
