-- Parts of a message: the bytes of the part that a reader hands back are the value of the object that counts.
use Rattle.std.specs.Prelude.{Option, Some, None}
use Prim.Native.Nat.{ℕ, ◌-◌}
use mathlib.Core.Path.{◌≡◌, refl, sym}
use mathlib.Core.List.{List}
use Rattle.object.specs.declared.family.Family.{Family}
use Rattle.object.specs.Family.{header_of, padded_in}
use Rattle.object.specs.Walk.{Item, walk_of}
use Rattle.object.proofs.ItemLaws.{item_in}
use Rattle.object.proofs.ChosenLaws.{one_in_law}
use Rattle.message.specs.Reading.{body_of, value_of}
use Rattle.octets.specs.Part.{bytes_at}
use Rattle.message.specs.Field.{object_in, bytes_from, part_of, value_in, part_in}

-- the bytes of the part that an object has are its value
pub part_holds : (f : Family) (t end : ℕ) (m : List ℕ) (o : Option Item) → object_in f t end m ≡ o → bytes_at m (part_of o) ≡ bytes_from (value_of o)
unfolding bytes_at object_in walk_of body_of
part_holds f t end m None e = refl
part_holds f t end m (Some i) e =
    sym (item_in (padded_in f) m (header_of f) (end - header_of f) i (one_in_law f t (walk_of f (body_of f end m)).items e).among).value

-- of any bytes m, and wherever the message is said to end
pub at_part : (f : Family) (t end : ℕ) (m : List ℕ) → bytes_at m (part_in f t end m) ≡ value_in f t end m
unfolding part_in value_in
at_part f t end m = part_holds f t end m (object_in f t end m) refl
