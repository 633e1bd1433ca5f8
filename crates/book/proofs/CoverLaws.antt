-- A whole book is its two counts and its entries, one after the other, and nothing else.
use Prim.Native.Nat.{ℕ, zero, suc, ◌+◌, ◌<◌, ◌≤◌}
use native.Mathlib.Numerals.{add-one}
use native.Mathlib.Omega.{arith}
use mathlib.Core.Path.{◌≡◌, refl, sym, ap, ◌∙◌}
use mathlib.Core.Bool.{Bool, true, false}
use mathlib.Core.List.{List, [], ◌∷◌, ◌++◌, append_assoc, append-nil}
use lib.ListN.{length, take, drop, get_or, take-append-drop}
use lib.Seq.{drop-cons, drop-length}
use Rattle.octets.specs.Choice.{pick}
use Rattle.octets.proofs.ListLaws.{part_join}
use Rattle.book.specs.declared.Entry.{Entry}
use Rattle.octets.specs.Part.{bytes_at}
use Rattle.book.specs.Entries.{entry_of, entry_at, end_of, entry_key, entry_value, entries_from, end_from, end_in, section_at, routers, accounts, routers_of, accounts_of}
use Rattle.book.specs.Whole.{whole_book}
use Rattle.book.proofs.MatchLaws.{section_grows}
use Rattle.book.proofs.BookLaws.{book_ends}

-- routers: IPv4, secret length, secret; accounts: name length, name, password length, password
abbrev pub entry_bytes : Bool → List ℕ → Entry → List ℕ
entry_bytes counted book e = pick counted (e.key.len ∷ entry_key book e) (entry_key book e) ++ (e.value.len ∷ entry_value book e)

abbrev pub entries_bytes : Bool → List ℕ → List Entry → List ℕ
entries_bytes counted book [] = []
entries_bytes counted book (e ∷ es) = entry_bytes counted book e ++ entries_bytes counted book es

module _ (book : List ℕ) where
  -- a byte at an offset
  byte_here : (at : ℕ) → at < length book → drop at book ≡ get_or book at 0 ∷ drop (at + 1) book
  byte_here at h = rw add-one (drop-cons book at 0 h)

  -- a key, the value's length and the value
  of_here : (key size : ℕ) → key + size < length book
      → drop key book ≡ entry_key book (entry_of book key size) ++ (get_or book (key + size) 0 ∷ entry_value book (entry_of book key size)) ++ drop (end_of (entry_of book key size)) book
  unfolding entry_of entry_key entry_value bytes_at
  of_here key size h =
      sym (part_join size key book)
      ∙ ap (λ l. take size (drop key book) ++ l)
      (byte_here (key + size) h ∙ ap (λ l. get_or book (key + size) 0 ∷ l) (sym (part_join (get_or book (key + size) 0) (key + size + 1) book)))
      ∙ sym (append_assoc (take size (drop key book)) (get_or book (key + size) 0 ∷ take (get_or book (key + size) 0) (drop (key + size + 1) book)) _)

  entry_here : (counted : Bool) (at : ℕ) → end_of (entry_at counted book at) ≤ length book
      → drop at book ≡ entry_bytes counted book (entry_at counted book at) ++ drop (end_of (entry_at counted book at)) book
  unfolding entry_at entry_of
  entry_here true at h = byte_here at (omega arith) ∙ ap (λ l. get_or book at 0 ∷ l) (of_here (at + 1) (get_or book at 0) (omega arith))
  entry_here false at h = of_here at 4 (omega arith)

  -- the entries of a section
  section_here : (counted : Bool) (at n : ℕ) → end_from counted book at n ≤ length book
      → drop at book ≡ entries_bytes counted book (entries_from counted book at n) ++ drop (end_from counted book at n) book
  unfolding entries_from end_from
  section_here counted at zero h = refl
  section_here counted at (suc n) h =
      let e = entry_at counted book at in
      let g : end_of e ≤ length book = omega (arith, section_grows counted book (end_of (entry_at counted book at)) n) in
      entry_here counted at g
      ∙ ap (λ l. entry_bytes counted book e ++ l) (section_here counted (end_of e) n h)
      ∙ sym (append_assoc (entry_bytes counted book e) (entries_bytes counted book (entries_from counted book (end_of e) n)) _)

  -- the whole book: a count and routers, a count and accounts
  pub covered : whole_book book ≡ true
      → book ≡ take 2 book ++ (entries_bytes false book (routers_of book) ++ (take 2 (drop (end_in book (routers book)) book) ++ entries_bytes true book (accounts_of book)))
  unfolding routers accounts section_at
  covered w =
      let r = end_in book (routers book) in
      let l : end_in book (accounts book) ≡ length book = book_ends book w in
      let i : r ≤ length book = omega (arith, section_grows true book (accounts book).at (accounts book).count) in
      sym (take-append-drop 2 book)
      ∙ ap (λ m. take 2 book ++ m)
      (section_here false 2 (routers book).count i
      ∙ ap (λ m. entries_bytes false book (routers_of book) ++ m)
      (sym (part_join 2 r book)
      ∙ ap (λ m. take 2 (drop r book) ++ m)
      (section_here true (r + 2) (accounts book).count (omega arith) ∙ ap (λ n. entries_bytes true book (accounts_of book) ++ drop n book) l ∙ rw drop-length (append-nil _))))
