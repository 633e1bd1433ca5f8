-- The object of a type that counts, in a message that ends at `end`: as bytes, as a part of the message, as a number that may be missing
-- (what the values are: the paper's table, column 'Object'; how they are handed back: DECISIONS, 26). Then S.
use Rattle.std.specs.Prelude.{ℕ, Bool, List, [], length, take, nat_le, slice_index, Result, Ok, Err, Option, Some, None}
use Rattle.octets.specs.declared.part.Part.{Part}
use Rattle.octets.specs.Numbers.{number_of}
use Rattle.refusal.specs.declared.Refusal.{Refusal}
use Rattle.object.specs.declared.family.Family.{Family}
use Rattle.object.specs.Walk.{Item}
use Rattle.message.specs.Reading.{body_of, one_in, value_of}

-- the object of a type that counts, in a message that ends at `end`
unfoldable pub object_in : Family → ℕ → ℕ → List ℕ → Option Item
object_in f t end m = one_in f t (body_of f end m)

-- the bytes of its value; nothing where there is none
abbrev pub bytes_from : Option (List ℕ) → List ℕ
bytes_from None = []
bytes_from (Some v) = v

-- the part of the message that its value is; an empty part where there is none
abbrev pub part_of : Option Item → Part
part_of None = record { at = 0; len = 0 }
part_of (Some i) = record { at = i.at; len = length i.value }

-- the number in its value, or that it is missing: at most eight bytes count, and no number of the tables has more
abbrev pub optional_of : Option (List ℕ) → Option ℕ
optional_of None = None
optional_of (Some v) = Some (number_of (take 8 v))

-- the value of the object of a type that counts
unfoldable pub value_in : Family → ℕ → ℕ → List ℕ → List ℕ
value_in f t end m = bytes_from (value_of (object_in f t end m))

-- the number in its first `size` bytes
abbrev pub number_in : Family → ℕ → ℕ → ℕ → List ℕ → ℕ
number_in f t size end m = number_of (take size (value_in f t end m))

-- the part of the message that this value is (DECISIONS, 26)
unfoldable pub part_in : Family → ℕ → ℕ → List ℕ → Part
part_in f t end m = part_of (object_in f t end m)

-- the number in the object of a type that counts, or that it is missing
unfoldable pub optional_in : Family → ℕ → ℕ → List ℕ → Option ℕ
optional_in f t end m = optional_of (value_of (object_in f t end m))

-- 'byte 1 S in its top bit'
abbrev pub flag_in : List ℕ → Bool
flag_in m = nat_le 128 (slice_index m 1)
