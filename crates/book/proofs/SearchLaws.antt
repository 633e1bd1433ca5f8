-- The search of the two books, one after the other.
use Prim.Native.Nat.{ℕ, zero, suc, ◌+◌, ◌<◌, ◌≤◌}
use native.Mathlib.Omega.{arith}
use mathlib.Core.Path.{◌≡◌, refl, sym, ◌∙◌}
use mathlib.Core.Bool.{true}
use mathlib.Core.List.{List, [], ◌∷◌}
use denote.Ref.{Bor}
use lib.ListN.{get_or}
use lib.Dec.{ltb}
use borrow.Author.Tests.{le-ltb}
use Rattle.std.specs.Prelude.{Option, Some, None}
use Rattle.octets.specs.Choice.{pick}
use Rattle.book.specs.declared.Entry.{Entry}
use Rattle.book.specs.declared.Section.{Section}
use Rattle.book.specs.Entries.{entry_value, section_at, accounts, accounts_of}
use Rattle.book.specs.Search.{first_match, handed, password_in}
use Rattle.book.proofs.WalkLaws.{finds}

-- the account that a book has under a name
abbrev pub account : List ℕ → List ℕ → Option Entry
account book name = first_match book name (accounts_of book)

-- the same by a walk over the section that the code has
pub account_walk : (book name : List ℕ) (s : Section) → s ≡ accounts book → account book name ≡ finds true book name s.at s.count
unfolding accounts section_at
account_walk book name s e = rw e

module _ (mill visitors name : List ℕ) where
  -- the books in the order of the search
  abbrev pub book_at : ℕ → List ℕ
  book_at which = pick (ltb which 1) mill visitors

  -- what the books from one on give
  abbrev pub later : ℕ → List ℕ
  later which = pick (ltb which 1) (password_in mill visitors name) (pick (ltb which 2) (handed visitors (account visitors name) []) [])

  -- one book, and then the others
  later_step : (which : ℕ) → which < 2 → later which ≡ handed (book_at which) (account (book_at which) name) (later (which + 1))
  unfolding password_in
  later_step zero h = refl
  later_step (suc zero) h = refl
  later_step (suc (suc n)) h = absurd (omega arith)

  module _ (which : ℕ) (book : List ℕ) (h : which < 2) (b : book ≡ book_at which) (w : password_in mill visitors name ≡ later which) where
    -- a match ends the search; none goes on
    pub matched : (e : Entry) → account book name ≡ Some e → entry_value book e ≡ password_in mill visitors name
    matched e f = sym (w ∙ later_step which h ∙ rw (← b, f))

    pub unmatched : account book name ≡ None → password_in mill visitors name ≡ later (which + 1)
    unmatched f = w ∙ later_step which h ∙ rw (← b, f)

  -- no book is left
  pub no_book : (which : ℕ) → 2 ≤ which → password_in mill visitors name ≡ later which → [] ≡ password_in mill visitors name
  no_book which h w = let g : 1 ≤ which = omega arith in sym (w ∙ rw (le-ltb which 1 g, le-ltb which 2 h))

-- the code's book
pub book_is : (mill visitors : Bor (List ℕ)) (name : List ℕ) (which : ℕ) (d : Bor (List ℕ)) → which < 2
    → (get_or (mill ∷ visitors ∷ []) which d).now ≡ book_at mill.now visitors.now name which
book_is mill visitors name zero d h = refl
book_is mill visitors name (suc zero) d h = refl
book_is mill visitors name (suc (suc n)) d h = absurd (omega arith)
