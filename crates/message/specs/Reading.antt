-- The header of a message and the tests 1 to 6 (the paper, 'Numbers a call can hand back'), for every kind.
use Rattle.std.specs.Prelude.{ℕ, ◌-◌, Bool, true, false, List, length, take, drop, nat_lt, slice_index, ◌==◌, Result, Ok, Err, Option, Some, None}
use Rattle.octets.specs.Choice.{pick, either, flip, every}
use Rattle.octets.specs.Range.{within}
use Rattle.octets.specs.Numbers.{number_of}
use Rattle.refusal.specs.declared.Refusal.{Refusal}
use Rattle.refusal.specs.declared.Refusal.TheVariants.{ShortHeader, BadLength, OtherCode, BrokenObject, MissingObject, BadValue}
use Rattle.object.specs.declared.family.Family.{Family}
use Rattle.object.specs.declared.family.Family.TheVariants.{Misp, Misauth}
use Rattle.object.specs.Family.{header_of, limit_of}
use Rattle.object.specs.Walk.{Item, is_whole, walk_of, one_of}
use Rattle.message.specs.declared.reading.Sound.{Sound}

-- 'bytes 2 and 3 Length of the whole message'
abbrev pub length_of : List ℕ → ℕ
length_of m = number_of (take 2 (drop 2 m))

-- 1: fewer bytes than a header. 2: Length below the header, above the limit, or above the bytes given
unfoldable pub headed : Family → List ℕ → Result ℕ Refusal
headed f m =
    pick (nat_lt (length m) (header_of f)) (Err ShortHeader)
    (pick (nat_lt (length_of m) (header_of f)) (Err BadLength)
    (pick (nat_lt (limit_of f) (length_of m)) (Err BadLength)
    (pick (nat_lt (length m) (length_of m)) (Err BadLength)
    (Ok (length_of m)))))

-- what follows the header of a message that ends at `end`; bytes after it are not read
unfoldable pub body_of : Family → ℕ → List ℕ → List ℕ
body_of f end m = take (end - header_of f) (drop (header_of f) m)

-- the object of a type that counts, of those that follow the header
abbrev pub one_in : Family → ℕ → List ℕ → Option Item
one_in f t body = one_of f t (walk_of f body).items

-- the value of an object that may be missing
abbrev pub value_of : Option Item → Option (List ℕ)
value_of None = None
value_of (Some i) = Some i.value

-- whether there is one
abbrev pub is_there : Option (List ℕ) → Bool
is_there None = false
is_there (Some v) = true

-- an object of the type that counts is there
unfoldable pub has_one : Family → ℕ → List ℕ → Bool
has_one f t body = is_there (value_of (one_in f t body))

-- 5: a mandatory object missing
unfoldable pub has_all : Family → List ℕ → List ℕ → Bool
has_all f types body = every (λ t. has_one f t body) types

-- 6: 'a check value, seed, authentication data or object 203 not 16 bytes': objects 5 and 8 of MISP, 200 to 203 of MISAUTH
abbrev pub sixteen_in : Family → ℕ → Bool
sixteen_in Misp t = either (t == 5) (t == 8)
sixteen_in Misauth t = within 200 203 t

-- 'or an empty name': object 6 of MISP, object 1 of MISAUTH
abbrev pub name_in : Family → ℕ → Bool
name_in Misp t = (t == 6)
name_in Misauth t = (t == 1)

-- a value of n bytes is of the size that 6 asks of its type
unfoldable pub fits_in : Family → ℕ → ℕ → Bool
fits_in f t n = pick (sixteen_in f t) (n == 16) (pick (name_in f t) (nat_lt 0 n) true)

-- the same of a value that may be missing; that it is not there is 5's
abbrev pub fits_value : Family → ℕ → Option (List ℕ) → Bool
fits_value f t None = true
fits_value f t (Some v) = fits_in f t (length v)

-- of the object that counts
unfoldable pub fits_one : Family → ℕ → List ℕ → Bool
fits_one f t body = fits_value f t (value_of (one_in f t body))

-- 6, of every mandatory type (DECISIONS, 27)
unfoldable pub all_fit : Family → List ℕ → List ℕ → Bool
all_fit f types body = every (λ t. fits_one f t body) types

-- where a message that passed the tests of its kind ends
abbrev pub sound : ℕ → Result Sound Refusal
sound end = Ok (record { end = end })

-- 4 (an object lacks its length byte, has Length below 2, or passes the end), then 5, then 6, over what follows the header
unfoldable pub vetted_body : Family → List ℕ → ℕ → List ℕ → Result Sound Refusal
vetted_body f mandatory end body =
    pick (flip (is_whole (walk_of f body).ends)) (Err BrokenObject)
    (pick (flip (has_all f mandatory body)) (Err MissingObject)
    (pick (flip (all_fit f mandatory body)) (Err BadValue)
    (sound end)))

-- 'A call that meets a refusal passes that number on' (the paper): what follows an answer that is a refusal or else a value
abbrev pub by_result : {A B : Type 0} → Result A Refusal → (Refusal → B) → (A → B) → B
by_result (Err why) refuse go = refuse why
by_result (Ok v) refuse go = go v

-- 1 to 6 in the table's order, for the kind of message with this code (3: 'Code not one this call takes') and these mandatory objects
unfoldable pub vetted : Family → ℕ → List ℕ → List ℕ → Result Sound Refusal
vetted f code mandatory m =
    by_result (headed f m) Err λ end.
    pick (slice_index m 0 == code) (vetted_body f mandatory end (body_of f end m)) (Err OtherCode)

-- what follows the tests of a kind: its refusal is passed on
abbrev pub by_vetted : {A : Type 0} → Result Sound Refusal → (Refusal → A) → (ℕ → A) → A
by_vetted v refuse go = by_result v refuse (λ passed. go passed.end)
