-- The object of a type that counts in a message, as `find` tells it of the bytes after the header.
use Rattle.std.specs.Prelude.{Option, Some, None}
use Rattle.std.specs.Option.{option_map, unwrap_or}
use Prim.Native.Nat.{ℕ}
use lib.ListN.{take}
use Rattle.octets.specs.Numbers.{number_of}
use mathlib.Core.List.{List}
use mathlib.Core.Path.{◌≡◌, refl, ap}
use Rattle.object.specs.Walk.{Item, found_of}
use Rattle.object.specs.declared.family.Family.{Family}
use Rattle.octets.specs.Part.{bytes_at}
use Rattle.message.specs.Field.{object_in, part_of, optional_of}
use Rattle.message.specs.Reading.{value_of}
use Rattle.message.proofs.PartLaws.{part_holds}

-- the part that it has; none is an empty one
pub found_part : (o : Option Item) → unwrap_or (found_of o) (record { at = 0; len = 0 }) ≡ part_of o
unfolding found_of
found_part None = refl
found_part (Some i) = refl

-- the bytes of the part that the object which counts has are its value
pub found_value : (f : Family) (t end : ℕ) (m : List ℕ) → option_map (bytes_at m) (found_of (object_in f t end m)) ≡ value_of (object_in f t end m)
unfolding found_of
found_value f t end m = go (object_in f t end m) refl
  where
    go : (o : Option Item) → object_in f t end m ≡ o → option_map (bytes_at m) (found_of o) ≡ value_of o
    go None e = refl
    go (Some i) e = ap Some (part_holds f t end m (Some i) e)

-- a number that may be missing, in the library's words
pub optional_map : (v : Option (List ℕ)) → option_map (λ (l : List ℕ). number_of (take 8 l)) v ≡ optional_of v
optional_map None = refl
optional_map (Some v) = refl
