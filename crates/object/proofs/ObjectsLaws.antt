-- The iterator over a message's objects: what one step of it leaves.
use Rattle.std.specs.Prelude.{Ok, Err}
use Prim.Native.Nat.{ℕ, ◌+◌, ◌-◌, ◌^◌, ◌≤◌, ◌<◌}
use mathlib.Core.Path.{◌≡◌, sym, ap, ◌∙◌}
use mathlib.Core.Logic.{◌⊎◌, ⊎_elim}
use mathlib.Core.List.{List, [], ◌∷◌}
use mathlib.Core.Bool.{Bool}
use native.Mathlib.Omega.{arith}
use lib.ListN.{length, take, drop, length-drop}
use Rattle.octets.proofs.ListLaws.{tail_of_law}
use Rattle.object.specs.declared.walk.Piece.{Piece}
use Rattle.object.specs.declared.walk.Piece.TheVariants.{End, Padding, Object, Broken}
use Rattle.octets.specs.Choice.{pick}
use Rattle.octets.proofs.ChoiceLaws.{never}
use lib.Dec.{eqb}
use borrow.Author.Tests.{eq-eqb, ne_eqb}
use Rattle.object.specs.declared.family.Family.{Family}
use Rattle.object.specs.Family.{header_of, padded_in}
use Rattle.object.specs.Walk.{piece_of, Item, Walk, onto, after, walk_from, walk_of}
use Rattle.object.proofs.WalkLaws.{StandsWhole, good_of, item_at, walk_step, Steps, walk_each}

-- what is broken is not at the end
some_broken : (p : Bool) (l : List ℕ) → piece_of p l ≡ Broken → length l ≡ 0 → ⊥
unfolding piece_of
some_broken p [] e h = never cc
some_broken p (x ∷ l) e h = absurd (omega arith)

-- the objects of a tail
abbrev pub items_from : Bool → ℕ → List ℕ → List Item
items_from p at l = (walk_from p at l).items

module _ (p : Bool) (at : ℕ) (l : List ℕ) {step : Piece} (stands : step ≡ piece_of p l) where
  by : (x : Piece) → step ≡ x → walk_from p at l ≡ after x at l (walk_from p)
  by x e = walk_step p at l ∙ ap (λ (y : Piece). after y at l (walk_from p)) (sym stands ∙ e)

  pub one_there : step ≡ Padding → 1 ≤ length l
  one_there e = good_of p l Padding (sym e ∙ stands)

  pub all_there : {k n : ℕ} → step ≡ Object k n → StandsWhole l k n
  all_there {k} {n} e = good_of p l (Object k n) (sym e ∙ stands)

  -- at the end or at a break none is left
  pub none_left : (step ≡ End) ⊎ (step ≡ Broken)
      → walk_from p at l ≡ record { items = []; ends = pick (eqb (length l) 0) (Ok tt) (Err at) }
  none_left h =
      ⊎_elim
      (λ e. rw (eq-eqb (length l) 0 (good_of p l End (sym e ∙ stands))) (by End e))
      (λ e. rw (ne_eqb (length l) 0 (some_broken p l (sym stands ∙ e))) (by Broken e))
      h

  -- padding is passed over, and an object is the first of those left
  pub skips : step ≡ Padding → walk_from p at l ≡ walk_from p (at + 1) (take (length l - 1) (drop 1 l))
  skips e = rw tail_of_law (by Padding e)

  pub gives : {k n : ℕ} → step ≡ Object k n → walk_from p at l ≡ onto (item_at k n at l) (walk_from p (at + n) (take (length l - n) (drop n l)))
  gives {k} {n} e = rw tail_of_law (by (Object k n) e)

-- the walk of a family, by what the code knows of it
pub walk_of_law : (f : Family) {p : Bool} {at : ℕ} (body : List ℕ) → p ≡ padded_in f → at ≡ header_of f → walk_from p at body ≡ walk_of f body
unfolding walk_of
walk_of_law f body e h = rw (e, h)

-- what a step leaves is shorter
pub leaves_less : (rest : List ℕ) (n : ℕ) → 1 ≤ n → n ≤ length rest → length (take (length rest - n) (drop n rest)) < length rest
leaves_less rest n low h = rw tail_of_law (simp length-drop (omega arith))

-- an offset past n bytes, with what they leave
pub still_fits : (at n : ℕ) (l : List ℕ) → n ≤ length l → at + length l < 2 ^ 64 → at + n + length (take (length l - n) (drop n l)) < 2 ^ 64
still_fits at n l h fits = rw tail_of_law (simp length-drop (omega arith))

-- each object takes a byte or more
abbrev Few : ℕ → List ℕ → Walk → Type 0
Few at l w = length w.items ≤ length l

few : (p : Bool) → Steps p Few
few p = record {
  none = λ at l e. omega arith;
  broken = λ at l. omega arith;
  padding = λ at l e one w more. let m = length-drop 1 l in omega (arith, more, m);
  object = λ at l t n e there w more. let m = length-drop n l in omega (arith, more, m, there.low, there.high);
}

pub few_objects : (p : Bool) (at : ℕ) (l : List ℕ) → length (items_from p at l) ≤ length l
few_objects p at l = walk_each p Few (few p) at l
