-- What refusal 6 leaves: in a message that was read, the fields that it holds to 16 bytes have 16 bytes, and a name is not empty.
use Prim.Native.Nat.{ℕ, ◌-◌, ◌≤◌}
use mathlib.Core.Path.{◌≡◌, refl, sym, ap, ◌∙◌}
use mathlib.Core.Bool.{Bool, true, false}
use mathlib.Core.List.{List, [], ◌∷◌}
use native.Mathlib.Omega.{arith}
use lib.ListN.{length}
use lib.Dec.{ltb, leb, eqb}
use borrow.Author.Tests.{le-leb, eqb-true}
use Rattle.std.specs.Prelude.{Result, Ok, Err, Option, Some, None}
use Rattle.message.specs.declared.reading.Sound.{Sound}
use Rattle.refusal.specs.declared.Refusal.{Refusal}
use Rattle.octets.specs.Choice.{either, every}
use Rattle.octets.specs.Numbers.{Bytes}
use Rattle.octets.proofs.ChoiceLaws.{never, both_left, both_right, both_true}
use Rattle.object.specs.declared.family.Family.{Family}
use Rattle.object.specs.Family.{header_of, padded_in}
use Rattle.object.specs.Walk.{Item, walk_of, one_of}
use Rattle.object.proofs.ItemLaws.{item_in}
use Rattle.object.proofs.ChosenLaws.{one_in_law}
use Rattle.message.specs.Reading.{body_of, value_of, is_there, has_one, has_all, sixteen_in, name_in, fits_in, fits_value, fits_one, all_fit, vetted, sound}
use Rattle.octets.specs.Part.{bytes_at}
use Rattle.message.specs.Field.{object_in, bytes_from, value_in, part_in}
use Rattle.message.specs.Writing.{is_name}
use Rattle.message.proofs.CasesLaws.{vetted_cases}
use Rattle.message.proofs.PartLaws.{at_part}

-- a type is one of a list
abbrev pub among : ℕ → List ℕ → Bool
among t [] = false
among t (x ∷ xs) = either (eqb x t) (among t xs)

-- a test that holds of a whole list holds of a type in it
every_at : (test : ℕ → Bool) (t : ℕ) (l : List ℕ) → every test l ≡ true → among t l ≡ true → test t ≡ true
unfolding every
every_at test t [] e h = never cc
every_at test t (x ∷ xs) e h = go (eqb x t) refl h (every_at test t xs (both_right (test x) (every test xs) e))
  where
    go : (b : Bool) → eqb x t ≡ b → either b (among t xs) ≡ true → (among t xs ≡ true → test t ≡ true) → test t ≡ true
    go true q g rest = ap test (sym (eqb-true x t q)) ∙ both_left (test x) (every test xs) e
    go false q g rest = rest g

-- what the tests 5 and 6 say of a message that passed them
module _ (f : Family) (code : ℕ) (mandatory m : List ℕ) where
  abbrev Tested : Result Sound Refusal → Type 0
  Tested (Err why) = Unit
  Tested (Ok passed) = (has_all f mandatory (body_of f passed.end m) ≡ true) × (all_fit f mandatory (body_of f passed.end m) ≡ true)

  vetted_tested : Tested (vetted f code mandatory m)
  vetted_tested = vetted_cases Tested f code mandatory m (λ _ _. tt) (λ _ h a. (h, a))

  sound_tested : (end : ℕ) → vetted f code mandatory m ≡ sound end → Tested (sound end)
  sound_tested end e = rw e at vetted_tested

-- a mandatory field has the size that 6 asks of its type
field_fits : (f : Family) (code : ℕ) (mandatory m : List ℕ) (t end : ℕ) → vetted f code mandatory m ≡ sound end → among t mandatory ≡ true
    → fits_in f t (length (value_in f t end m)) ≡ true
unfolding has_all all_fit has_one fits_one value_in object_in
field_fits f code mandatory m t end e a =
    let (h, g) = sound_tested f code mandatory m end e in
    let b : List ℕ = body_of f end m in
    go (value_of (one_of f t (walk_of f b).items)) (every_at (λ k. has_one f k b) t mandatory h a) (every_at (λ k. fits_one f k b) t mandatory g a)
  where
    go : (o : Option (List ℕ)) → is_there o ≡ true → fits_value f t o ≡ true → fits_in f t (length (bytes_from o)) ≡ true
    go None h e = never cc
    go (Some v) h e = e

-- where 6 holds the type to 16 bytes, it has 16
pub field_sixteen : (f : Family) (code : ℕ) (mandatory m : List ℕ) (t end : ℕ) → vetted f code mandatory m ≡ sound end → among t mandatory ≡ true
    → sixteen_in f t ≡ true → length (bytes_at m (part_in f t end m)) ≡ 16
unfolding fits_in
field_sixteen f code mandatory m t end e a s =
    let q : eqb (length (value_in f t end m)) 16 ≡ true = rw s at (field_fits f code mandatory m t end e a) in
    ap length (at_part f t end m) ∙ eqb-true (length (value_in f t end m)) 16 q

-- no value is longer than its object's length byte says
short_of_law : (f : Family) (t end : ℕ) (m : List ℕ) → Bytes m → (o : Option Item) → object_in f t end m ≡ o → length (bytes_from (value_of o)) ≤ 253
unfolding object_in walk_of body_of
short_of_law f t end m b None e = omega arith
short_of_law f t end m b (Some i) e =
    omega (
      arith,
      (item_in (padded_in f) m (header_of f) (end - header_of f) i (one_in_law f t (walk_of f (body_of f end m)).items e).among).size,
      b.small (i.at - 1),
    )

-- a mandatory name is one that a writer takes
pub field_name : (f : Family) (code : ℕ) (mandatory m : List ℕ) (t end : ℕ) → Bytes m → vetted f code mandatory m ≡ sound end → among t mandatory ≡ true
    → sixteen_in f t ≡ false → name_in f t ≡ true → is_name (bytes_at m (part_in f t end m)) ≡ true
unfolding fits_in is_name value_in
field_name f code mandatory m t end b e a s n =
    let v : List ℕ = value_in f t end m in
    let long : ltb 0 (length v) ≡ true = rw (s, n) at (field_fits f code mandatory m t end e a) in
    let short = le-leb (length v) 253 (short_of_law f t end m b (object_in f t end m) refl) in
    rw (at_part f t end m) (both_true (ltb 0 (length v)) (leb (length v) 253) long short)
