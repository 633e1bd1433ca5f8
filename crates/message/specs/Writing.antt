-- The bytes of a message (the paper, 'MISP messages' and 'MISAUTH messages': the layouts, the writer's order), and what a writer leaves in the lent buffer
-- ('Output past the message stays').
use Rattle.message.specs.Reading.{by_result}
use Rattle.std.specs.Prelude.{ℕ, ◌+◌, ◌-◌, ◌%◌, ◌≤◌, ◌≡◌, Bool, true, false, List, [], ◌∷◌, ◌++◌, length, replicate, nat_le, nat_lt, ◌==◌, Result, Option, Ok, Err, Some, None}
use Rattle.refusal.specs.declared.Refusal.{Refusal}
use Rattle.octets.specs.Choice.{pick, both}
use Rattle.octets.specs.Numbers.{bytes_of}
use Rattle.octets.specs.Put.{put, put_in}
use Rattle.refusal.specs.Step.{written}
use Rattle.refusal.specs.declared.Refusal.TheVariants.{OutOfRange, SmallOutput}
use Rattle.object.specs.declared.family.Family.{Family}
use Rattle.object.specs.Family.{header_of, limit_of, is_small}

-- Code, the second byte (S in its top bit, or the Identifier), Length; a MISAUTH header has the 16 bytes of the Authenticator besides, zero here
unfoldable pub head_bytes : Family → ℕ → ℕ → ℕ → List ℕ
head_bytes f code second end = code ∷ second ∷ (bytes_of 2 end ++ replicate (header_of f - 4) 0)

-- Type, Length (counting both bytes), value; Length is one byte, so a value of more than 253 bytes has no object
unfoldable pub object_bytes : ℕ → List ℕ → List ℕ
object_bytes t value = pick (nat_le (length value) 253) (t ∷ (2 + length value) ∷ value) []

-- an object to be written: its type and its value
pub record Object : Type 0 where
  pub kind : ℕ
  pub value : List ℕ

-- an object of a type with a value
abbrev pub object : ℕ → List ℕ → Object
object t v = record { kind = t; value = v }

-- an object whose value is a number of `size` bytes
abbrev pub number_object : ℕ → ℕ → ℕ → Object
number_object t size n = object t (bytes_of size n)

-- one object of the type t for each value, in their order
abbrev pub repeats : ℕ → List (List ℕ) → List Object
repeats t [] = []
repeats t (v ∷ vs) = object t v ∷ repeats t vs

-- a value that may be missing, as a list: no value, or one
abbrev pub perhaps : Option (List ℕ) → List (List ℕ)
perhaps None = []
perhaps (Some v) = v ∷ []

-- a number that may be missing, as a value of `size` bytes
abbrev pub optional_value : ℕ → Option ℕ → Option (List ℕ)
optional_value size None = None
optional_value size (Some n) = Some (bytes_of size n)

-- its object, or none
abbrev pub optional_object : ℕ → ℕ → Option ℕ → List Object
optional_object t size o = repeats t (perhaps (optional_value size o))

-- objects one after the other, without padding
unfoldable pub encoded : List Object → List ℕ
encoded [] = []
encoded (o ∷ os) = object_bytes o.kind o.value ++ encoded os

-- Type and Length of an object whose value has n bytes, written where the whole object has room
pub record Starts (before : List ℕ) (at kind n : ℕ) (after : List ℕ) (r : Bool) : Type 0 where
  pub room : r ≡ nat_le (at + (2 + n)) (length before)
  pub left : after ≡ pick r (put before at (kind ∷ (2 + n) ∷ [])) before

-- an object, or none, written at an offset where it has room, and how many bytes it takes: at most 255
pub record Placed (before : List ℕ) (at : ℕ) (os : List Object) (after : List ℕ) (r : ℕ) : Type 0 where
  pub size : r ≡ length (encoded os)
  pub few : r ≤ 255
  pub left : after ≡ put_in before at (encoded os)

-- a message: its header, with the length of the whole, and its objects
unfoldable pub message_of : Family → ℕ → ℕ → List ℕ → List ℕ
message_of f code second objects = head_bytes f code second (header_of f + length objects) ++ objects

-- a bare writer meets 20 and 18 alone: the output is under the limit of the family; a field, or the whole, is out of its range
unfoldable pub wrote_of : Family → Bool → List ℕ → List ℕ → Result ℕ Refusal
wrote_of f in_range message out =
    pick (is_small f out) (Err SmallOutput)
    (pick (both in_range (nat_le (length message) (limit_of f))) (Ok (length message)) (Err OutOfRange))

-- the message and what stood behind it, or all as it was
abbrev pub by_wrote : Result ℕ Refusal → List ℕ → List ℕ → List ℕ
by_wrote r message out = by_result r (λ why. out) (λ n. written message out)

-- after a refusal nothing is written; output past the message stays
unfoldable pub left_of : Family → Bool → List ℕ → List ℕ → List ℕ
left_of f in_range message out = by_wrote (wrote_of f in_range message out) message out

-- 18 (DECISIONS, 19): a number that may be missing is below a bound
unfoldable pub is_below : Option ℕ → ℕ → Bool
is_below None bound = true
is_below (Some n) bound = nat_lt n bound

-- 18: a list of elements of `unit` bytes that fits an object
unfoldable pub is_list : ℕ → List ℕ → Bool
is_list unit value = both (nat_lt 0 unit) (both (nat_le (length value) 253) ((length value % unit) == 0))

-- 18: a name that fits an object and is not empty
unfoldable pub is_name : List ℕ → Bool
is_name value = both (nat_lt 0 (length value)) (nat_le (length value) 253)

-- S in the top bit, with seven reserved bits that are written 0
abbrev pub flag_byte : Bool → ℕ
flag_byte true = 128
flag_byte false = 0

-- a writer's answer and what it leaves, for a message that is in range or not
pub record Writes (f : Family) (in_range : Bool) (message before after : List ℕ) (r : Result ℕ Refusal) : Type 0 where
  pub told : r ≡ wrote_of f in_range message before
  pub left : after ≡ left_of f in_range message before
