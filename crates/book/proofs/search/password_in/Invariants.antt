-- `password_in` meets its contract.
use mathlib.Core.Path.{◌≡◌}
use mathlib.Core.List.{[]}
use Rattle.octets.specs.Same.{same_bytes}
use Rattle.octets.proofs.SameLaws.{from}
use Rattle.book.specs.Left.{entries_left}
use Rattle.book.specs.Search.{first_match, password_in}
use Rattle.book.proofs.SearchLaws.{account, later}
use Rattle.book.proofs.search.password_in.Given as goal

abbrev pub invariant-loop-i : goal.invariant-loop-i
invariant-loop-i l = same_bytes l.key l.name ≡ from l.key l.name l.i

abbrev pub invariant-entries : goal.invariant-entries
invariant-entries l =
    (goal.iterator-entries).can_next l.e-iterator
    × (goal.iterator-entries).is_finite l.e-iterator
    × (l.password ≡ [])
    × (l.e-iterator.book.now ≡ l.book)
    × (account l.book l.name ≡ first_match l.book l.name (entries_left l.e-iterator))

abbrev pub invariant-books : goal.invariant-books
invariant-books l = (l.password ≡ []) × (password_in l.mill l.visitors l.name ≡ later l.mill l.visitors l.name l.book-index)
