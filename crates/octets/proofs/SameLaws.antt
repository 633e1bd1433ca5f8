-- Equality as a test says equality; and its loop, byte by byte.
use Prim.Native.Nat.{ℕ, ◌+◌, ◌<◌, ◌≤◌}
use native.Mathlib.Numerals.{add-one}
use mathlib.Core.Path.{◌≡◌, refl, sym, ap, ap₂, subst, ◌∙◌}
use mathlib.Core.List.{List, [], ◌∷◌}
use mathlib.Core.Bool.{Bool, true, false}
use lib.ListN.{length, drop, get_or, drop_of_length-le}
use lib.Seq.{drop-cons}
use lib.Dec.{eqb}
use lib.Pointwise.{pointwise}
use borrow.Author.Tests.{eq-eqb, ne_eqb, eqb-true, eqb-false}
use Rattle.octets.specs.Choice.{both}
use Rattle.octets.specs.Same.{same_bytes}
use Rattle.octets.proofs.ChoiceLaws.{and_both, not_both, fails, same_test, both_true, both_left, both_right}

-- the test says equality, both ways
pub same_refl : (a : List ℕ) → same_bytes a a ≡ true
unfolding same_bytes
same_refl [] = refl
same_refl (x ∷ xs) = both_true (eqb x x) (same_bytes xs xs) (eq-eqb x x refl) (same_refl xs)

pub same_true : (a b : List ℕ) → same_bytes a b ≡ true → a ≡ b
unfolding same_bytes
same_true [] [] e = refl
same_true [] (y ∷ ys) e = cc
same_true (x ∷ xs) [] e = cc
same_true (x ∷ xs) (y ∷ ys) e =
    ap₂ ◌∷◌ (eqb-true x y (both_left (eqb x y) (same_bytes xs ys) e)) (same_true xs ys (both_right (eqb x y) (same_bytes xs ys) e))

pub true_same : (a b : List ℕ) → a ≡ b → same_bytes a b ≡ true
true_same a b e = rw (← e) (same_refl a)

pub same_false : (a b : List ℕ) → same_bytes a b ≡ false → a ≡ b → ⊥
same_false a b e q = not_both (true_same a b q) e

pub false_same : (a b : List ℕ) → (a ≡ b → ⊥) → same_bytes a b ≡ false
false_same a b h = fails (same_bytes a b) (λ e. h (same_true a b e))

-- what holds of one number, and of every other, holds of all
pub one_or_other : (P : ℕ → Type 0) (i : ℕ) → P i → ((j : ℕ) → (j ≡ i → ⊥) → P j) → (j : ℕ) → P j
one_or_other P i here other j = go (eqb j i) refl
  where
    go : (b : Bool) → eqb j i ≡ b → P j
    go true e = subst P (sym (eqb-true j i e)) here
    go false e = other j (eqb-false j i e)

-- either way round
pub same_sym : (a b : List ℕ) → same_bytes a b ≡ same_bytes b a
same_sym a b =
    same_test (same_bytes a b)
    (λ e. true_same b a (sym (same_true a b e)))
    (λ e. false_same b a (λ q. same_false a b e (sym q)))

-- strings of other lengths differ
pub unequal_lengths : (a b : List ℕ) → (length a ≡ length b → ⊥) → same_bytes a b ≡ false
unequal_lengths a b h = false_same a b (λ e. h (ap length e))

-- the same from an offset on
abbrev pub from : List ℕ → List ℕ → ℕ → Bool
from a b i = same_bytes (drop i a) (drop i b)

-- at the byte i: the same, another, or the end
step : (a b : List ℕ) (i : ℕ) → i < length a → i < length b → from a b i ≡ both (eqb (get_or a i 0) (get_or b i 0)) (from a b (i + 1))
unfolding same_bytes
step a b i p q = rw (add-one i, drop-cons a i 0 p, drop-cons b i 0 q)

pub same_step : (a b : List ℕ) (i : ℕ) → i < length a → i < length b → get_or a i 0 ≡ get_or b i 0 → from a b i ≡ from a b (i + 1)
same_step a b i p q e = step a b i p q ∙ simp (eq-eqb _ _ e)

pub other_step : (a b : List ℕ) (i : ℕ) → i < length a → i < length b → (get_or a i 0 ≡ get_or b i 0 → ⊥) → from a b i ≡ false
other_step a b i p q e = step a b i p q ∙ simp (ne_eqb _ _ e)

pub at_end : (a b : List ℕ) (i : ℕ) → length a ≤ i → length b ≤ i → from a b i ≡ true
unfolding same_bytes
at_end a b i p q = rw (drop_of_length-le a p, drop_of_length-le b q)

-- std's equality of slices says the same
pub same_pointwise : (a b : List ℕ) → pointwise eqb a b ≡ same_bytes a b
unfolding same_bytes
same_pointwise [] [] = refl
same_pointwise [] (y ∷ b) = refl
same_pointwise (x ∷ a) [] = refl
same_pointwise (x ∷ a) (y ∷ b) = rw (same_pointwise a b) (and_both (eqb x y) (same_bytes a b))
