-- A written message with another value in the place of one as long, and where the first object of a type stands.
use Rattle.std.specs.Prelude.{Option, Some}
use Prim.Native.Nat.{ℕ, ◌+◌, ◌≤◌}
use mathlib.Core.Path.{◌≡◌, refl, sym, ap, ap₂, ◌∙◌}
use mathlib.Core.Bool.{Bool, true, false}
use mathlib.Core.List.{List, [], ◌∷◌, ◌++◌, append_assoc}
use native.Mathlib.Omega.{arith}
use lib.ListN.{length, length-append}
use lib.Dec.{eqb}
use borrow.Author.Tests.{eq-eqb}
use Rattle.octets.proofs.ChoiceLaws.{never}
use Rattle.octets.specs.Choice.{pick}
use Rattle.octets.specs.Put.{put_in}
use Rattle.octets.proofs.PatchLaws.{put_in_middle}
use Rattle.object.specs.declared.family.Family.{Family}
use Rattle.object.specs.Family.{header_of, last_in}
use Rattle.object.specs.Walk.{Item, one_of}
use Rattle.message.specs.Reading.{length_of}
use Rattle.message.specs.Field.{object_in}
use Rattle.message.specs.Writing.{head_bytes, object_bytes, Object, object, encoded, message_of}
use Rattle.message.proofs.ObjectLaws.{object_bytes_law, object_size}
use Rattle.message.proofs.WritingLaws.{head_length, encoded_append}
use Rattle.message.proofs.EncodedLaws.{AllProper, items_from, given, mine_proper}
use Rattle.message.proofs.RunLaws.{Run, in_runs, runs_proper}
use Rattle.message.proofs.CarriedLaws.{Carries, carried_body, walk_carried}

-- a message as what stands before the value of one object, that value, and what follows it
module _ (f : Family) (code second t : ℕ) (xs ys : List Object) where
  -- the header and the objects before it, and its Type and Length, for a value of n bytes
  up_to : ℕ → List ℕ
  up_to n = head_bytes f code second (header_of f + (length (encoded xs) + (2 + n + length (encoded ys)))) ++ (encoded xs ++ (t ∷ (2 + n) ∷ []))

  up_to_length : (n : ℕ) → length (up_to n) ≡ header_of f + length (encoded xs) + 2
  unfolding up_to
  up_to_length n = simp (length-append, head_length) (omega arith)

  split : (v : List ℕ) → length v ≤ 253 → message_of f code second (encoded (xs ++ (object t v ∷ ys))) ≡ up_to (length v) ++ (v ++ encoded ys)
  unfolding message_of encoded up_to
  split v h =
      let is : encoded (xs ++ (object t v ∷ ys)) ≡ encoded xs ++ ((t ∷ (2 + length v) ∷ v) ++ encoded ys) =
      encoded_append xs (object t v ∷ ys) ∙ ap (λ (l : List ℕ). encoded xs ++ (l ++ encoded ys)) (object_bytes_law t v h) in
      let long : length (encoded (xs ++ (object t v ∷ ys))) ≡ length (encoded xs) + (2 + length v + length (encoded ys)) =
      ap length is ∙ simp length-append (omega arith) in
      ap₂ (λ (n : ℕ) (l : List ℕ). head_bytes f code second (header_of f + n) ++ l) long is ∙ simp append_assoc

  -- another value as long, put in its place
  pub patch_message : (z c : List ℕ) → length z ≡ length c → length c ≤ 253
      → put_in (message_of f code second (encoded (xs ++ (object t z ∷ ys)))) (header_of f + length (encoded xs) + 2) c
      ≡ message_of f code second (encoded (xs ++ (object t c ∷ ys)))
  patch_message z c e h =
      ap (λ (m : List ℕ). put_in m (header_of f + length (encoded xs) + 2) c) (split z (omega arith))
      ∙ put_in_middle (up_to (length z)) z (encoded ys) c (header_of f + length (encoded xs) + 2) (up_to_length (length z)) e
      ∙ ap (λ (n : ℕ). up_to n ++ (c ++ encoded ys)) e
      ∙ sym (split c h)

-- none of the values before it is of its type
none_before : (b : Bool) (v : List ℕ) (vs : List (List ℕ)) → pick b (v ∷ vs) vs ≡ [] → (b ≡ false) × (vs ≡ [])
none_before true v vs e = never cc
none_before false v vs e = (refl, e)

-- an object of the type t whose value v stands at an offset
abbrev pub standing : ℕ → ℕ → List ℕ → Option Item
standing t at v = Some (record { kind = t; at = at; value = v })

-- where the first counts, it is the one that no other of its type precedes
pub first_at : (f : Family) (t at : ℕ) (xs : List Object) (v : List ℕ) (ys : List Object) → last_in f ≡ false
    → AllProper f (xs ++ (object t v ∷ ys)) → given t xs ≡ []
    → one_of f t (items_from at (xs ++ (object t v ∷ ys))) ≡ standing t (at + length (encoded xs) + 2) v
unfolding one_of encoded
first_at f t at [] v ys first proper alone =
    let here : at + 2 ≡ at + 0 + 2 = omega arith in
    rw (mine_proper f t (at + 2) (object t v) proper.0, eq-eqb t t refl, first)
    (ap (λ (n : ℕ). standing t n v) here)
first_at f t at (x ∷ xs) v ys first proper alone =
    let (other, rest) = none_before (eqb x.kind t) x.value (given t xs) alone in
    let further : at + 2 + length x.value + length (encoded xs) + 2 ≡ at + length (object_bytes x.kind x.value ++ encoded xs) + 2 =
    rw (length-append, object_size x.kind x.value proper.0.short) (omega arith) in
    rw (mine_proper f t (at + 2) x proper.0, other, first)
    (first_at f t (at + 2 + length x.value) xs v ys first proper.1 rest
    ∙ ap (λ (n : ℕ). standing t n v) further)

-- of a message that was written
pub first_carried : {f : Family} {code second : ℕ} {rs : List Run} {m : List ℕ} (c : Carries f code second rs m) (t : ℕ) (xs : List Object) (v : List ℕ) (ys : List Object)
    → last_in f ≡ false → in_runs rs ≡ xs ++ (object t v ∷ ys) → given t xs ≡ []
    → object_in f t (length_of m) m ≡ standing t (header_of f + length (encoded xs) + 2) v
unfolding object_in
first_carried {f} {code} {second} {rs} {m} c t xs v ys first are alone =
    rw (carried_body c, walk_carried f rs c.proper, are)
    (first_at f t (header_of f) xs v ys first (rw are at (runs_proper f rs c.proper)) alone)
