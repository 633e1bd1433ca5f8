-- A table of forms, from the one at i on: a form that a line has, one that it has not, and no form left.
use Prim.Native.Nat.{ℕ, ◌+◌, ◌≤◌, ◌<◌}
use mathlib.Core.Path.{◌≡◌, refl}
use mathlib.Core.Bool.{true, false}
use mathlib.Core.List.{List, map}
use native.Mathlib.Numerals.{add-one}
use lib.ListN.{length, get_or, drop, drop_of_length-le}
use lib.Seq.{drop-cons}
use Rattle.std.proofs.Common.{Some, None}
use Rattle.asked.specs.Arguments.{is_call}
use Rattle.asked.specs.Verb.{Form, verb_in}

module _ {X : Type 0} (F : X → Form) (xs : List X) (line : List ℕ) (i : ℕ) (d : X) where
  pub has : i < length xs → is_call line (F (get_or xs i d)).name (F (get_or xs i d)).words ≡ true
      → verb_in (map F (drop i xs)) line ≡ Some (F (get_or xs i d)).asks
  unfolding verb_in
  has h e = rw (drop-cons xs i d h, e) refl

  pub lacks : i < length xs → is_call line (F (get_or xs i d)).name (F (get_or xs i d)).words ≡ false
      → verb_in (map F (drop i xs)) line ≡ verb_in (map F (drop (i + 1) xs)) line
  unfolding verb_in
  lacks h e = rw (drop-cons xs i d h, e, add-one) refl

-- no form is left
pub no_form : {X : Type 0} (F : X → Form) (xs : List X) (line : List ℕ) (i : ℕ) → length xs ≤ i → verb_in (map F (drop i xs)) line ≡ None
unfolding verb_in
no_form F xs line i h = rw (drop_of_length-le xs {i = i} h) refl
