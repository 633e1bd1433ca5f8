-- How an account book is laid out (the paper, 'Account book'): two sections, and the entries in them.
-- A book is any byte string here: a byte past its end reads as 0 (DECISIONS, 45). Whether a book is whole is said in Whole.
use Rattle.std.specs.Prelude.{ℕ, zero, suc, ◌+◌, Bool, true, false, List, [], ◌∷◌, take, drop, slice_index}
use Rattle.octets.specs.Choice.{pick}
use Rattle.octets.specs.Numbers.{number_of}
use Rattle.octets.specs.Part.{bytes_at}
use Rattle.book.specs.declared.Entry.{Entry}
use Rattle.book.specs.declared.Section.{Section}

-- an entry whose key has `size` bytes from an offset on; after it come the value's length and the value
unfoldable pub entry_of : List ℕ → ℕ → ℕ → Entry
entry_of book key size =
    record { key = record { at = key; len = size }; value = record { at = key + size + 1; len = slice_index book (key + size) } }

-- routers (IPv4, secret length, secret), accounts (name length, name, password length, password): an account's key is counted
unfoldable pub entry_at : Bool → List ℕ → ℕ → Entry
entry_at counted book at = pick counted (entry_of book (at + 1) (slice_index book at)) (entry_of book at 4)

-- where an entry ends
abbrev pub end_of : Entry → ℕ
end_of e = e.value.at + e.value.len

-- an entry's key: 'IPv4' of a router, 'name' of an account
unfoldable pub entry_key : List ℕ → Entry → List ℕ
entry_key book e = bytes_at book e.key

-- its value: 'secret' of a router, 'password' of an account
unfoldable pub entry_value : List ℕ → Entry → List ℕ
entry_value book e = bytes_at book e.value

-- n entries, one after the other from an offset on
unfoldable pub entries_from : Bool → List ℕ → ℕ → ℕ → List Entry
entries_from counted book at zero = []
entries_from counted book at (suc n) = entry_at counted book at ∷ entries_from counted book (end_of (entry_at counted book at)) n

-- where n entries end
unfoldable pub end_from : Bool → List ℕ → ℕ → ℕ → ℕ
end_from counted book at zero = at
end_from counted book at (suc n) = end_from counted book (end_of (entry_at counted book at)) n

-- a section's entries
abbrev pub entries_in : List ℕ → Section → List Entry
entries_in book s = entries_from s.counted book s.at s.count

-- where a section ends: the next one, or the end of the book ('ends with its last entry')
abbrev pub end_in : List ℕ → Section → ℕ
end_in book s = end_from s.counted book s.at s.count

-- the section whose two-byte count, most significant byte first (DECISIONS, 49), stands at an offset
unfoldable pub section_at : Bool → List ℕ → ℕ → Section
section_at counted book at = record { counted = counted; at = at + 2; count = number_of (take 2 (drop at book)) }

-- two sections in this order: routers, accounts
unfoldable pub routers : List ℕ → Section
routers book = section_at false book 0

-- the second section starts where the first ends
unfoldable pub accounts : List ℕ → Section
accounts book = section_at true book (end_in book (routers book))

-- the entries of the routers
abbrev pub routers_of : List ℕ → List Entry
routers_of book = entries_in book (routers book)

-- the entries of the accounts
abbrev pub accounts_of : List ℕ → List Entry
accounts_of book = entries_in book (accounts book)
