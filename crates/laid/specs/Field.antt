-- What all stored records share. The documents say nothing of how a state is kept; docs/BOUNDARY.md does: a state is the fields of its record, one
-- after the other, numbers most significant byte first.
use Rattle.std.specs.Prelude.{ℕ, ◌≡◌, Bool, List, [], ◌∷◌, ◌++◌, take, drop, ◌==◌}
use Rattle.octets.specs.Choice.{bit_of}
use Rattle.octets.specs.Numbers.{number_of, bytes_of}
use Rattle.octets.specs.Put.{fitted}
use Rattle.held.specs.declared.Held.{Held}

-- fields one after the other
abbrev pub joined : List (List ℕ) → List ℕ
joined [] = []
joined (f ∷ fs) = f ++ joined fs

-- the bytes of a value, of which that value is read again
pub record Keeps {A : Type 0} (bytes : A → List ℕ) (from : List ℕ → A) (x : A) (t : List ℕ) : Type 0 where
  pub is : t ≡ bytes x
  pub again : from t ≡ x

-- a flag is one byte
abbrev pub flag_bytes : Bool → List ℕ
flag_bytes flag = bit_of flag ∷ []

-- a byte that is not 1 is a flag that is not set
abbrev pub flag_of : ℕ → Bool
flag_of b = (b == 1)

-- the number of k bytes at an offset
abbrev pub number_at : ℕ → ℕ → List ℕ → ℕ
number_at k at s = number_of (take k (drop at s))

-- the array of k bytes at an offset; bytes that are missing count as 0
unfoldable pub array_at : ℕ → ℕ → List ℕ → List ℕ
array_at k at s = fitted k (drop at s)

-- a held byte string: its array of 253 bytes, and its length as a number of eight
unfoldable pub held_stored : Held → List ℕ
held_stored h = joined (h.bytes ∷ bytes_of 8 h.size ∷ [])

-- .. and read again
unfoldable pub held_from : List ℕ → Held
held_from s = record { bytes = array_at 253 0 s; size = number_at 8 253 s }
