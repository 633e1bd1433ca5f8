-- A message that is cut short: bytes that are missing at its end, and a Length that ends in the middle of an object.
use Prim.Native.Nat.{ℕ, ◌+◌, ◌-◌, ◌≤◌, ◌<◌}
use mathlib.Core.Path.{◌≡◌, refl, sym, ap, ◌∙◌}
use mathlib.Core.Bool.{Bool, true, false}
use mathlib.Core.List.{List, [], ◌∷◌, ◌++◌, append_assoc, append-nil}
use native.Mathlib.Omega.{arith}
use lib.ListN.{length, take, length-append}
use lib.Dec.{ltb, leb, eqb}
use lib.Seq.{take-append-le, take-append-add, length-take-le}
use borrow.Author.Tests.{lt-ltb, ltb-false, leb-true}
use Rattle.std.specs.Prelude.{Result, Ok, Err}
use Rattle.octets.specs.Choice.{pick, both}
use Rattle.octets.specs.Numbers.{number_of}
use Rattle.octets.proofs.ChoiceLaws.{pick_all, pick_same, both_none}
use Rattle.octets.proofs.ListLaws.{part_within}
use Rattle.refusal.specs.declared.Refusal.{Refusal}
use Rattle.refusal.specs.declared.Refusal.TheVariants.{ShortHeader, BadLength, BrokenObject}
use Rattle.object.specs.declared.family.Family.{Family}
use Rattle.object.specs.declared.family.Family.TheVariants.{Misauth}
use Rattle.object.specs.Family.{header_of, limit_of, padded_in}
use Rattle.object.specs.Walk.{walk_from, walk_of}
use Rattle.object.proofs.WalkLaws.{walk_none, walk_object, walk_cut, walk_append}
use Rattle.message.specs.Reading.{length_of, headed, vetted_body, vetted}
use Rattle.message.specs.Writing.{Object, head_bytes, object_bytes, encoded, message_of}
use Rattle.message.proofs.ObjectLaws.{object_bytes_law}
use Rattle.message.proofs.WritingLaws.{header_least, encoded_append}
use Rattle.message.proofs.HeaderLaws.{header_vetted}

-- the refusal of a message of which the first k bytes are there: 1 where that is no whole header, else 2
abbrev pub short_of : Family → ℕ → Refusal
short_of f k = pick (ltb k (header_of f)) ShortHeader BadLength

-- the first k bytes of a message that ends where its Length says
module _ (f : Family) (m : List ℕ) (ends : length_of m ≡ length m) (k : ℕ) (less : k < length m) where
  short_long : length (take k m) ≡ k
  short_long = length-take-le k m (omega arith)

  short_says : header_of f ≤ k → length_of (take k m) ≡ length m
  short_says h = ap number_of (part_within k 2 2 m (omega (arith, header_least f))) ∙ ends

  -- the header of the first k bytes
  pub short_head : headed f (take k m) ≡ Err (short_of f k)
  unfolding headed
  short_head = rw short_long (go (ltb k (header_of f)) refl)
    where
      go : (b : Bool) → ltb k (header_of f) ≡ b
          → pick b (Err ShortHeader)
          (pick (ltb (length_of (take k m)) (header_of f)) (Err BadLength)
          (pick (ltb (limit_of f) (length_of (take k m))) (Err BadLength)
          (pick (ltb k (length_of (take k m))) (Err BadLength) (Ok (length_of (take k m))))))
          ≡ Err (pick b ShortHeader BadLength)
      go true e = refl
      go false e =
          rw (
            short_says (ltb-false k (header_of f) e),
            lt-ltb k (length m) less,
            pick_same {A = Result ℕ Refusal} (ltb (limit_of f) (length m)) (Err BadLength),
            pick_same {A = Result ℕ Refusal} (ltb (length m) (header_of f)) (Err BadLength),
          )

  -- and every reader that tests it
  pub short_vetted : (code : ℕ) (mandatory : List ℕ) → vetted f code mandatory (take k m) ≡ Err (short_of f k)
  unfolding vetted
  short_vetted code mandatory = rw short_head

-- no object is padding: there is none of type 0, or the family has none
abbrev pub NoPadding : Family → List Object → Type 0
NoPadding f [] = Unit
NoPadding f (o ∷ os) = (both (eqb o.kind 0) (padded_in f) ≡ false) × NoPadding f os

-- MISAUTH has no padding
pub no_padding_misauth : (os : List Object) → NoPadding Misauth os
no_padding_misauth [] = tt
no_padding_misauth (o ∷ os) = (both_none (eqb o.kind 0), no_padding_misauth os)

no_padding_parts : (f : Family) (xs : List Object) (o : Object) (ys : List Object) → NoPadding f (xs ++ (o ∷ ys))
    → NoPadding f xs × (both (eqb o.kind 0) (padded_in f) ≡ false)
no_padding_parts f [] o ys h = (tt, h.0)
no_padding_parts f (x ∷ xs) o ys h = let r = no_padding_parts f xs o ys h.1 in ((h.0, r.0), r.1)

-- objects that were written are whole
objects_whole : (f : Family) (at : ℕ) (os : List Object) → NoPadding f os → (walk_from (padded_in f) at (encoded os)).ends ≡ Ok tt
unfolding encoded object_bytes
objects_whole f at [] h = rw (walk_none (padded_in f) at)
objects_whole f at (o ∷ os) h =
    let v : List ℕ = o.value in
    pick_all (λ (l : List ℕ). (walk_from (padded_in f) at (l ++ encoded os)).ends ≡ Ok tt) (leb (length v) 253)
    (o.kind ∷ (2 + length v) ∷ v) []
    (λ _. rw (walk_object (padded_in f) at o.kind v (encoded os) h.0) (objects_whole f (at + 2 + length v) os h.1))
    λ _. objects_whole f at os h.1

-- an object of which a part is there has a length byte
part_short : (t : ℕ) (v : List ℕ) (j : ℕ) → j < length (object_bytes t v) → length v ≤ 253
unfolding object_bytes
part_short t v j less = leb-true (length v) 253 (go (leb (length v) 253) less)
  where
    go : (b : Bool) → j < length (pick b (t ∷ (2 + length v) ∷ v) []) → b ≡ true
    go true h = refl
    go false h = absurd (omega arith)

-- the walk over whole objects and the first j bytes of another: it meets the whole ones, and is broken where the other starts
pub walk_short : (f : Family) (xs : List Object) (o : Object) (j : ℕ) → NoPadding f xs → both (eqb o.kind 0) (padded_in f) ≡ false
    → 0 < j → j < length (object_bytes o.kind o.value)
    → walk_of f (encoded xs ++ take j (object_bytes o.kind o.value))
    ≡ record { items = (walk_of f (encoded xs)).items; ends = Err (header_of f + length (encoded xs)) }
unfolding walk_of
walk_short f xs o j before none some less =
    let v : List ℕ = o.value in
    let whole : object_bytes o.kind v ≡ o.kind ∷ (2 + length v) ∷ v = object_bytes_law o.kind v (part_short o.kind v j less) in
    let part : List ℕ = take j (object_bytes o.kind v) in
    walk_append (padded_in f) (header_of f) (encoded xs) part (objects_whole f (header_of f) xs before)
    ∙ rw (
      whole,
      walk_cut (padded_in f) (header_of f + length (encoded xs)) o.kind v j none some (omega (arith, less, ap length whole)),
      append-nil (walk_from (padded_in f) (header_of f) (encoded xs)).items,
    )

-- a message of these objects, with any bytes after them, whose Length says k
abbrev pub saying : ℕ → Family → ℕ → ℕ → List Object → List ℕ → List ℕ
saying k f code second os more = head_bytes f code second k ++ (encoded os ++ more)

-- with the length of the whole it is what a writer writes
pub saying_written : (f : Family) (code second : ℕ) (os : List Object) (more : List ℕ)
    → saying (header_of f + length (encoded os)) f code second os more ≡ message_of f code second (encoded os) ++ more
unfolding message_of
saying_written f code second os more =
    sym (append_assoc (head_bytes f code second (header_of f + length (encoded os))) (encoded os) more)

-- a Length of k bytes ends in the middle of the object o, which the objects xs precede
pub record CutsIn (f : Family) (xs : List Object) (o : Object) (k : ℕ) : Type 0 where
  pub after : header_of f + length (encoded xs) < k
  pub before : k < header_of f + length (encoded xs) + length (object_bytes o.kind o.value)
  pub limit : k ≤ limit_of f

-- a message whose Length ends so
module _ (f : Family) (xs : List Object) (o : Object) (ys : List Object) (none : NoPadding f (xs ++ (o ∷ ys))) (k : ℕ)
    (cuts : CutsIn f xs o k) where
  bytes : List ℕ
  bytes = object_bytes o.kind o.value

  -- how much of o is there
  part : ℕ
  part = k - header_of f - length (encoded xs)

  part_sum : k - header_of f ≡ length (encoded xs) + part
  unfolding part
  part_sum = omega (arith, cuts.after)

  part_some : 0 < part
  unfolding part
  part_some = omega (arith, cuts.after)

  part_less : part < length bytes
  unfolding part bytes
  part_less = omega (arith, cuts.after, cuts.before)

  cut_body : (more : List ℕ) → take (k - header_of f) (encoded (xs ++ (o ∷ ys)) ++ more) ≡ encoded xs ++ take part bytes
  unfolding encoded bytes
  cut_body more =
      let rest : List ℕ = encoded ys ++ more in
      rw (
        part_sum,
        encoded_append xs (o ∷ ys),
        append_assoc,
        append_assoc,
        take-append-add (encoded xs) (bytes ++ rest) part,
        take-append-le part bytes rest (omega (arith, part_less)),
      )

  cut_there : (more : List ℕ) → k ≤ header_of f + length (encoded (xs ++ (o ∷ ys)) ++ more)
  unfolding encoded
  cut_there more = rw (encoded_append xs (o ∷ ys)) (simp length-append (omega (arith, cuts.before)))

  -- every reader refuses it with 4
  pub cut_vetted : (code second : ℕ) (mandatory more : List ℕ)
      → vetted f code mandatory (saying k f code second (xs ++ (o ∷ ys)) more) ≡ Err BrokenObject
  unfolding vetted_body bytes
  cut_vetted code second mandatory more =
      let rest : List ℕ = encoded (xs ++ (o ∷ ys)) ++ more in
      let parts = no_padding_parts f xs o ys none in
      let low : header_of f ≤ k = omega (arith, cuts.after) in
      header_vetted f code second k rest low cuts.limit (cut_there more) mandatory
      ∙ rw (cut_body more, walk_short f xs o part parts.0 parts.1 part_some part_less)
