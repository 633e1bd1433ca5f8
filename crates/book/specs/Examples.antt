-- A whole book and each way of being broken but too many bytes; a password and a secret of each kind (the paper, 'Account book').
use Rattle.std.specs.Prelude.{ℕ, ◌≡◌, refl, Bool, true, false, List, [], ◌∷◌, ◌++◌, map, replicate}
use Rattle.octets.specs.Numbers.{number_of}
use Rattle.octets.specs.Same.{same_bytes}
use Rattle.octets.specs.Choice.{every}
use Rattle.octets.specs.Part.{bytes_at}
use Rattle.book.specs.Entries.{entry_of, entry_at, entry_key, entry_value, entries_from, end_from, section_at, routers, accounts}
use Rattle.book.specs.Whole.{entry_fits, among, distinct, whole_section, whole_book}
use Rattle.book.specs.Search.{first_match, password_in, password_of, secret_in, secret_of}

-- routers 10.0.0.1 and 10.0.0.2, with the secrets 7 8 and 9
abbrev pub two_routers : List ℕ
two_routers = 0 ∷ 2 ∷ 10 ∷ 0 ∷ 0 ∷ 1 ∷ 2 ∷ 7 ∷ 8 ∷ 10 ∷ 0 ∷ 0 ∷ 2 ∷ 1 ∷ 9 ∷ []

-- an account of a name and a password of n and m times one byte
abbrev pub account : ℕ → ℕ → ℕ → ℕ → List ℕ
account n a m b = n ∷ replicate n a ++ (m ∷ replicate m b)

-- the accounts 65 65 with the password 1 1 1, and 66 with the password 2
abbrev pub mill : List ℕ
mill = two_routers ++ (0 ∷ 2 ∷ account 2 65 3 1 ++ account 1 66 1 2)

-- no router; the accounts 66 with the password 4 4, and 67 with the password 5
abbrev pub visitors : List ℕ
visitors = 0 ∷ 0 ∷ 0 ∷ 2 ∷ account 1 66 2 4 ++ account 1 67 1 5

-- a book, and whether it is whole
pub record Example : Type 0 where
  pub book : List ℕ
  pub whole : Bool

-- an example of a book
abbrev eg : Bool → List ℕ → Example
eg w b = record { book = b; whole = w }

-- the paper, 'Account book', sentence by sentence
abbrev pub examples : List Example
examples =
    -- whole: with entries, with none, with the longest name and password
    eg true mill
    ∷ eg true visitors
    ∷ eg true (0 ∷ 0 ∷ 0 ∷ 0 ∷ [])
    ∷ eg true (0 ∷ 0 ∷ 0 ∷ 1 ∷ account 253 65 253 1)
    -- no counts, one count, half of the second
    ∷ eg false []
    ∷ eg false (0 ∷ 0 ∷ [])
    ∷ eg false (0 ∷ 0 ∷ 0 ∷ [])
    -- a count that promises more routers, or more accounts, than there are
    ∷ eg false (0 ∷ 1 ∷ 0 ∷ 0 ∷ [])
    ∷ eg false (two_routers ++ (0 ∷ 2 ∷ account 2 65 3 1))
    -- a byte, or an account, past the last entry
    ∷ eg false (mill ++ (0 ∷ []))
    ∷ eg false (two_routers ++ (0 ∷ 1 ∷ account 2 65 3 1 ++ account 1 66 1 2))
    -- an entry cut short: in its name, before its password's length, in its password
    ∷ eg false (0 ∷ 0 ∷ 0 ∷ 1 ∷ 2 ∷ 65 ∷ [])
    ∷ eg false (0 ∷ 0 ∷ 0 ∷ 1 ∷ 2 ∷ 65 ∷ 65 ∷ [])
    ∷ eg false (0 ∷ 0 ∷ 0 ∷ 1 ∷ 2 ∷ 65 ∷ 65 ∷ 2 ∷ 1 ∷ [])
    -- lengths 0, 254 and 255 of a name and of a password, 0 and 254 of a secret
    ∷ eg false (0 ∷ 0 ∷ 0 ∷ 1 ∷ account 0 65 1 1)
    ∷ eg false (0 ∷ 0 ∷ 0 ∷ 1 ∷ account 1 65 0 1)
    ∷ eg false (0 ∷ 0 ∷ 0 ∷ 1 ∷ account 254 65 1 1)
    ∷ eg false (0 ∷ 0 ∷ 0 ∷ 1 ∷ account 1 65 254 1)
    ∷ eg false (0 ∷ 0 ∷ 0 ∷ 1 ∷ account 255 65 255 1)
    ∷ eg false (0 ∷ 1 ∷ 10 ∷ 0 ∷ 0 ∷ 1 ∷ 0 ∷ 0 ∷ 0 ∷ [])
    ∷ eg false (0 ∷ 1 ∷ 10 ∷ 0 ∷ 0 ∷ 1 ∷ 254 ∷ replicate 254 7 ++ (0 ∷ 0 ∷ []))
    -- a router, and a name, that is repeated
    ∷ eg false (0 ∷ 2 ∷ 10 ∷ 0 ∷ 0 ∷ 1 ∷ 1 ∷ 7 ∷ 10 ∷ 0 ∷ 0 ∷ 1 ∷ 1 ∷ 8 ∷ 0 ∷ 0 ∷ [])
    ∷ eg false (0 ∷ 0 ∷ 0 ∷ 3 ∷ account 2 65 1 1 ++ account 1 65 1 1 ++ account 2 65 1 2)
    ∷ []

-- each is whole or broken, as it says
pub answers : map (λ (e : Example). whole_book e.book) examples ≡ map (λ (e : Example). e.whole) examples
unfolding whole_book whole_section distinct among every entry_fits routers accounts section_at end_from entries_from entry_key bytes_at entry_at entry_of number_of same_bytes
answers = refl

-- the mill's password first; the visitors' where the mill has none; none; none where the visitors' book is broken, though the mill's has the name
pub passwords :
    map (λ (n : ℕ). password_of mill visitors (n ∷ [])) (66 ∷ 67 ∷ 65 ∷ []) ++ (password_of mill (visitors ++ (0 ∷ [])) (66 ∷ []) ∷ [])
    ≡ (2 ∷ []) ∷ (5 ∷ []) ∷ [] ∷ [] ∷ []
unfolding password_of password_in first_match entry_value whole_book whole_section distinct among every entry_fits routers accounts section_at end_from entries_from entry_key bytes_at entry_at entry_of number_of same_bytes
passwords = refl

-- the first account that matches ends the search, which shows in a book that repeats a name (and is broken for it)
pub first_counts : password_in (0 ∷ 0 ∷ 0 ∷ 2 ∷ account 1 66 1 2 ++ account 1 66 1 3) visitors (66 ∷ []) ≡ 2 ∷ []
unfolding password_in first_match entry_value routers accounts section_at end_from entries_from entry_key bytes_at entry_at entry_of number_of same_bytes
first_counts = refl

-- a router's secret, and an address that is none's
pub secrets : map (λ (n : ℕ). secret_of mill (10 ∷ 0 ∷ 0 ∷ n ∷ [])) (1 ∷ 2 ∷ 3 ∷ []) ≡ (7 ∷ 8 ∷ []) ∷ (9 ∷ []) ∷ [] ∷ []
unfolding secret_of secret_in first_match entry_value whole_book whole_section distinct among every entry_fits routers accounts section_at end_from entries_from entry_key bytes_at entry_at entry_of number_of same_bytes
secrets = refl
