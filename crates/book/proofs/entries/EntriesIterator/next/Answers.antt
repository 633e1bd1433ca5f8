-- `next` meets its contract.
use native.Mathlib.Omega.{arith}
use mathlib.Core.Path.{ap}
use lib.ListN.{length}
use borrow.Author.Rules.{rules}
use Rattle.book.specs.declared.Entry.{Entry}
use Rattle.book.proofs.LayoutLaws.{one_left}
use Rattle.book.proofs.MatchLaws.{entry_grows}
use Rattle.book.proofs.entries.EntriesIterator.next.Goals as goal

pub invariant_of-self : goal.invariant_of-self
invariant_of-self c =
    let s = c.args.self.now in
    let e = c.entry_at-e.ensures in
    record { near = omega (arith, e.ends, s.near); past = rw e.is (omega (arith, s.past, entry_grows s.section.counted s.book.now s.section.at)) }

pub returns-clause-goes : goal.returns-clause-goes
returns-clause-goes c =
    let s = c.args.self.now in
    let more = rw (← c.entry_at-e.ensures.is) at (ap (length {A = Entry}) (one_left s.section.counted s.book.now s.section.at s.section.count (omega arith))) in
    search rules
