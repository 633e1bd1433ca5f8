-- When a book is whole (the paper, 'Account book'); any other is broken (DECISIONS, 37).
use Rattle.std.specs.Prelude.{ℕ, Bool, true, false, List, [], ◌∷◌, map, length, nat_le, ◌==◌}
use Rattle.octets.specs.Choice.{both, either, flip, every}
use Rattle.octets.specs.Range.{within}
use Rattle.octets.specs.Same.{same_bytes}
use Rattle.book.specs.declared.Entry.{Entry}
use Rattle.book.specs.declared.Section.{Section}
use Rattle.book.specs.Entries.{entry_key, entries_in, end_in, routers, accounts}

-- lengths are 1 to 253
abbrev pub length_fits : ℕ → Bool
length_fits n = within 1 253 n

-- of a name or an address (4 bytes), and of a password or a secret
unfoldable pub entry_fits : Entry → Bool
entry_fits e = both (length_fits e.key.len) (length_fits e.value.len)

-- a key is among others
unfoldable pub among : List ℕ → List (List ℕ) → Bool
among k [] = false
among k (l ∷ ls) = either (same_bytes l k) (among k ls)

-- 'repeats no router and no name'
unfoldable pub distinct : List (List ℕ) → Bool
distinct [] = true
distinct (k ∷ ks) = both (flip (among k ks)) (distinct ks)

-- the addresses of routers, the names of accounts
abbrev pub keys_of : List ℕ → List Entry → List (List ℕ)
keys_of book es = map (entry_key book) es

-- a section whose lengths fit and which repeats no key
unfoldable pub whole_section : List ℕ → Section → Bool
whole_section book s = both (every entry_fits (entries_in book s)) (distinct (keys_of book (entries_in book s)))

-- a book is at most 65,536 bytes, ends with its last entry, and repeats no router and no name
unfoldable pub whole_book : List ℕ → Bool
whole_book book =
    both (nat_le (length book) 65536)
    (both (end_in book (accounts book) == length book)
    (both (whole_section book (routers book)) (whole_section book (accounts book))))
