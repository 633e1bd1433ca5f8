-- `end` meets its contract.
use Prim.Native.Nat.{◌+◌, ◌*◌, ◌≤◌}
use mathlib.Core.Path.{◌≡◌}
use Rattle.book.specs.Entries.{end_in}
use Rattle.book.proofs.entries.Entries.end.Given as goal

abbrev pub invariant-loop : goal.invariant-loop
invariant-loop l = (end_in l.self.book.now l.self.section ≡ end_in l.fn.self.book.now l.fn.self.section)
    × (l.self.section.at + 512 * l.self.section.count ≤ l.fn.self.section.at + 512 * l.fn.self.section.count)

abbrev pub decreases-loop : goal.decreases-loop
decreases-loop l = l.self.section.count
