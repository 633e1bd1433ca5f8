-- The first and the last of the objects of a type that count, as a list's.
use Prim.Native.Nat.{ℕ}
use mathlib.Core.Path.{◌≡◌, refl, sym, ap, ◌∙◌}
use mathlib.Core.List.{List, [], ◌∷◌, map}
use mathlib.Core.Bool.{Bool, true, false}
use Rattle.std.specs.Prelude.{Option, Some, None}
use Rattle.std.specs.List.{slice_get, last_or}
use Rattle.std.specs.Option.{option_map}
use Rattle.std.specs.Iterator.{Drains, YieldsFirstBy}
use Rattle.std.proofs.lemmas.Iterator.{YieldsList}
use Rattle.std.proofs.lemmas.Iterator.Consumers.{YieldsList-end}
use Rattle.octets.specs.Choice.{pick}
use Rattle.object.specs.declared.family.Family.{Family}
use Rattle.object.specs.declared.objects.Item.{Item as Taken}
use Rattle.object.specs.declared.objects.Mine.{Mine}
use Rattle.object.specs.Family.{last_in}
use Rattle.object.specs.Objects.{item_of, mine_left}
use Rattle.object.specs.Walk.{Item, mine, or_else, join, one_of, all_of}
use Rattle.object.proofs.ChosenLaws.{none_join}

-- the first
pub first_of : (s t : Mine) (r : Option Taken) {all : List Item} → YieldsFirstBy item_of mine_left s r t → mine_left s ≡ all → option_map item_of r ≡ slice_get all 0
first_of s t None h e = ap (λ (is : List Item). slice_get is 0) (sym h.0 ∙ e)
first_of s t (Some x) h e = ap (λ (is : List Item). slice_get is 0) (sym h ∙ e)

-- the last
last_map : {A B : Type 0} (v : A → B) (o : Option A) (xs : List A) → option_map v (last_or o xs) ≡ last_or (option_map v o) (map v xs)
last_map v o [] = refl
last_map v o (x ∷ xs) = last_map v (Some x) xs

pub last_from : {S A B : Type 0} {steps : S → Option A → S → Type 0} {v : A → B} {s : S} {all : List B} (r : Option A)
    → ((xs : List A) × Drains steps s xs × (r ≡ last_or None xs)) → YieldsList steps v s all → option_map v r ≡ last_or None all
last_from {v = v} r h e =
    let d = h.1.1 in
    ap (option_map v) h.2 ∙ last_map v None h.0 ∙ ap (last_or None) (YieldsList-end e h.0 d.0 d.1 None h.1.0 refl d.2).0

module _ (f : Family) (t : ℕ) where
  -- the first of those is the one where the first counts
  pub one_first : last_in f ≡ false → (is : List Item) → slice_get (all_of f t is) 0 ≡ one_of f t is
  unfolding one_of all_of
  one_first h [] = refl
  one_first h (i ∷ is) = first_step (mine f t i) (one_first h is)
    where
      first_step : (b : Bool) → slice_get (all_of f t is) 0 ≡ one_of f t is
          → slice_get (pick b (i ∷ all_of f t is) (all_of f t is)) 0 ≡ join (last_in f) (pick b (Some i) None) (one_of f t is)
      first_step true more = rw h refl
      first_step false more = rw h more

  -- and the last where the last counts
  over : (a : Option Item) (i : Item) (p : Option Item) → or_else a (Some i) ≡ or_else (or_else a (Some i)) p
  over None i p = refl
  over (Some j) i p = refl

  last_after : last_in f ≡ true → (is : List Item) (o : Option Item) → last_or o (all_of f t is) ≡ or_else (one_of f t is) o
  unfolding one_of all_of
  last_after h [] o = refl
  last_after h (i ∷ is) o = last_step (mine f t i) (last_after h is)
    where
      last_step : (b : Bool) → ((p : Option Item) → last_or p (all_of f t is) ≡ or_else (one_of f t is) p)
          → last_or o (pick b (i ∷ all_of f t is) (all_of f t is)) ≡ or_else (join (last_in f) (pick b (Some i) None) (one_of f t is)) o
      last_step true more = rw h (more (Some i) ∙ over (one_of f t is) i o)
      last_step false more = rw (h, none_join true (one_of f t is)) (more o)

  pub one_last : last_in f ≡ true → (is : List Item) → last_or None (all_of f t is) ≡ one_of f t is
  one_last h is = last_after h is None ∙ none_join true (one_of f t is)
