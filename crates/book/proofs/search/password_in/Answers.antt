-- `password_in` meets its contract.
use native.Mathlib.Omega.{arith}
use mathlib.Core.Path.{refl, ◌∙◌}
use Rattle.octets.proofs.SameLaws.{other_step, at_end, unequal_lengths}
use Rattle.book.specs.Entries.{entry_value}
use Rattle.book.proofs.LeftLaws.{tested, found_here, found_on}
use Rattle.book.proofs.SearchLaws.{book_is, matched}
use Rattle.book.proofs.search.password_in.Goals as goal

pub entries-preserved-then-key-name : goal.entries-preserved-then-key-name
entries-preserved-then-key-name c =
    let i = c.entries.invariant in
    let w = c.in-Some.ensures.steps in
    (tt, tt, i.2, w.book ∙ i.3, i.4 ∙ found_on _ _ w (tested _ _ refl c.bytes_at-key.ensures refl (unequal_lengths _ _ c.if-key-name.true)))

pub entries-preserved : goal.entries-preserved
entries-preserved c =
    let i = c.entries.invariant in
    let w = c.in-Some.ensures.steps in
    let q = c.loop-i.invariant ∙ other_step c.bytes_at-key.result.now c.args.name.now c.loop-i.i (omega arith) (omega arith) c.if-key-i.true in
    (tt, tt, i.2, w.book ∙ i.3, i.4 ∙ found_on _ _ w (tested _ _ refl c.bytes_at-key.ensures refl q))

pub returns-after-loop-i : goal.returns-after-loop-i
unfolding entry_value
returns-after-loop-i c =
    let a = c.args in
    let q = c.loop-i.invariant ∙ at_end c.bytes_at-key.result.now a.name.now c.loop-i.i (omega arith) (omega arith) in
    c.bytes_at-password.ensures
    ∙ matched a.mill.now a.visitors.now a.name.now c.books.book-index _ c.books-test.true (book_is a.mill a.visitors a.name.now c.books.book-index _ c.books-test.true)
    c.books.invariant.1 c.in-Some.e (c.entries.invariant.4 ∙ found_here _ _ c.in-Some.ensures.steps (tested _ _ refl c.bytes_at-key.ensures refl q))
