-- The text of objects one after the other, of the objects of fields, and a number's bytes as a field holds them.
use Prim.Native.Nat.{ℕ, ◌+◌, ◌≤◌, ◌<◌}
use mathlib.Core.Path.{◌≡◌, refl, ap, ◌∙◌}
use mathlib.Core.List.{List, [], ◌∷◌, ◌++◌, append-nil, append_assoc, map}
use native.Mathlib.Numerals.{add-one}
use native.Mathlib.Omega.{arith}
use lib.ListN.{length, get_or, take, replicate, length-replicate}
use lib.Seq.{take-suc}
use Rattle.octets.specs.Put.{put_in, fitted}
use Rattle.octets.specs.Numbers.{bytes_of}
use Rattle.octets.proofs.PatchLaws.{put_in_part}
use Rattle.octets.proofs.NumberLaws.{bytes_length}
use Rattle.octets.proofs.FittedLaws.{fitted_start}
use Rattle.object.specs.declared.family.Family.TheVariants.{Misauth}
use Rattle.object.specs.declared.objects.Item.{Item}
use Rattle.object.specs.Objects.{item_of}
use Rattle.object.specs.Walk as walk
use Rattle.message.specs.Reading.{length_of, body_of}
use Rattle.message.specs.Writing.{Object, object, repeats}
use Rattle.misauth.specs.Run.{values_of, repeats_in}
use Rattle.told.specs.Print.{Puts}
use Rattle.told.proofs.PutsLaws.{puts_both, puts_none}
use Rattle.listed.specs.declared.fields.Field.{Field}
use Rattle.listed.specs.Text.{field_text, objects_text}
use Rattle.listed.specs.Fields.{objects_of, all_objects}

-- the text of two lists of objects
pub text_append : (a b : List Object) → objects_text (a ++ b) ≡ objects_text a ++ objects_text b
unfolding objects_text
text_append [] b = refl
text_append (o ∷ a) b = rw (text_append a b, append_assoc)

module _ {text : List ℕ} {at : ℕ} where
  -- no object
  pub puts_nothing : Puts (objects_text []) text at text at
  unfolding objects_text
  puts_nothing = puts_none

  -- one
  pub puts_field : (kind : ℕ) (value : List ℕ) {held : List ℕ} {r : ℕ} → Puts (field_text kind value) text at held r
      → Puts (objects_text (object kind value ∷ [])) text at held r
  unfolding objects_text
  puts_field kind value p = rw append-nil p

-- the objects of two lists of fields
all_append : (m : List ℕ) (a b : List Field) → all_objects m (a ++ b) ≡ all_objects m a ++ all_objects m b
all_append m [] b = refl
all_append m (f ∷ a) b = rw (all_append m a b, append_assoc)

-- one field more
fields_more : (m : List ℕ) (fs : List Field) (i : ℕ) (none : Field) → i < length fs
    → objects_text (all_objects m (take i fs)) ++ objects_text (objects_of m (get_or fs i none)) ≡ objects_text (all_objects m (take (i + 1) fs))
fields_more m fs i none h =
    let all : all_objects m (take i fs ++ (get_or fs i none ∷ [])) ≡ all_objects m (take i fs) ++ objects_of m (get_or fs i none)
    = all_append m (take i fs) (get_or fs i none ∷ []) ∙ rw append-nil in
    rw (add-one, take-suc fs i none h, all, text_append (all_objects m (take i fs)) (objects_of m (get_or fs i none))) refl

pub puts_fields : (m : List ℕ) (fs : List Field) (i : ℕ) (none : Field) {text first second : List ℕ} {at r next : ℕ} → i < length fs
    → Puts (objects_text (all_objects m (take i fs))) text at first r → Puts (objects_text (objects_of m (get_or fs i none))) first r second next
    → Puts (objects_text (all_objects m (take (i + 1) fs))) text at second next
puts_fields m fs i none h p q = rw (← fields_more m fs i none h) (puts_both p q)

-- a number's bytes, put into zeros, stand at their start
pub own_number : (room size n : ℕ) (held : List ℕ) → size ≤ room → held ≡ put_in (replicate room 0) 0 (bytes_of size n) → take size held ≡ bytes_of size n
own_number room size n held h e =
    let long : length (bytes_of size n) ≡ size = bytes_length size n in
    let part : take (length (bytes_of size n)) (put_in (replicate room 0) 0 (bytes_of size n)) ≡ bytes_of size n
    = put_in_part (replicate room 0) 0 (bytes_of size n) (simp length-replicate (omega (arith, long))) in
    ap (take size) e ∙ (rw long at part)

-- the text of objects of one type that came, and of one more
abbrev pub run_text : ℕ → List Item → List ℕ
run_text t xs = objects_text (repeats t (values_of (map item_of xs)))

run_more : (t : ℕ) (xs : List Item) (x : Item) → run_text t xs ++ field_text t x.value.now ≡ run_text t (xs ++ (x ∷ []))
unfolding objects_text
run_more t [] x = rw append-nil refl
run_more t (y ∷ xs) x = append_assoc (field_text t y.value.now) (run_text t xs) (field_text t x.value.now) ∙ ap (λ (l : List ℕ). field_text t y.value.now ++ l) (run_more t xs x)

pub puts_more : (t : ℕ) (xs : List Item) (x : Item) {text first second : List ℕ} {at r next : ℕ} → Puts (run_text t xs) text at first r
    → Puts (field_text t x.value.now) first r second next → Puts (run_text t (xs ++ (x ∷ []))) text at second next
puts_more t xs x p q = rw (← run_more t xs x) (puts_both p q)

-- all that came
pub run_ends : (t : ℕ) (m body : List ℕ) (xs : List Item) {end : ℕ} → end ≡ length_of m → body ≡ body_of Misauth end m
    → map item_of xs ≡ walk.all_of Misauth t (walk.walk_of Misauth body).items → run_text t xs ≡ objects_text (repeats t (repeats_in t (length_of m) m))
unfolding repeats_in
run_ends t m body xs h b e =
    let inside = b ∙ ap (λ (k : ℕ). body_of Misauth k m) h in
    ap (λ (is : List walk.Item). objects_text (repeats t (values_of is))) (e ∙ ap (λ (l : List ℕ). walk.all_of Misauth t (walk.walk_of Misauth l).items) inside)

-- a value fitted into an array stands at its start
pub own_value : (size room : ℕ) (value held : List ℕ) → length value ≡ size → size ≤ room → held ≡ fitted room value → take size held ≡ value
own_value size room value held e h f = ap (take size) f ∙ (rw e at (fitted_start room value (omega (arith, e))))
