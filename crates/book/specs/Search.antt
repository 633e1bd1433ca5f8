-- What a search of the books hands back (the paper, 'Account book'). `password_in` and `secret_in` do not ask whether a book is whole, `password_of` and `secret_of` do (DECISIONS, 44).
use Rattle.std.specs.Prelude.{ℕ, List, [], ◌∷◌, Option, Some, None}
use Rattle.octets.specs.Choice.{pick, both}
use Rattle.octets.specs.Same.{same_bytes}
use Rattle.book.specs.declared.Entry.{Entry}
use Rattle.book.specs.Entries.{entry_key, entry_value, routers_of, accounts_of}
use Rattle.book.specs.Whole.{whole_book}

-- the first entry that matches
unfoldable pub first_match : List ℕ → List ℕ → List Entry → Option Entry
first_match book key [] = None
first_match book key (e ∷ es) = pick (same_bytes (entry_key book e) key) (Some e) (first_match book key es)

-- the bytes of what was found, where they stand in the book; where nothing was, what comes later
abbrev pub handed : List ℕ → Option Entry → List ℕ → List ℕ
handed book (Some e) later = entry_value book e
handed book None later = later

-- the first account that matches ends the search of both books, the mill's first
unfoldable pub password_in : List ℕ → List ℕ → List ℕ → List ℕ
password_in mill visitors name =
    handed mill (first_match mill name (accounts_of mill))
    (handed visitors (first_match visitors name (accounts_of visitors)) [])

-- empty if none matches or a book is broken
unfoldable pub password_of : List ℕ → List ℕ → List ℕ → List ℕ
password_of mill visitors name = pick (both (whole_book mill) (whole_book visitors)) (password_in mill visitors name) []

-- router secrets come from the mill's book only, by the IPv4 source address
unfoldable pub secret_in : List ℕ → List ℕ → List ℕ
secret_in mill address = handed mill (first_match mill address (routers_of mill)) []

-- empty where the address is no router's or the mill's book is broken
unfoldable pub secret_of : List ℕ → List ℕ → List ℕ
secret_of mill address = pick (whole_book mill) (secret_in mill address) []
