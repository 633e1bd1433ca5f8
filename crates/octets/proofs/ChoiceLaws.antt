-- The tests of a definition: what follows from where one goes, and where it goes from what holds.
use mathlib.Core.Bool.{Bool, true, false, not, false≢true}
use Rattle.std.proofs.Common.{◌&&◌}
use mathlib.Core.Path.{◌≡◌, refl, sym, ◌∙◌}
use Rattle.octets.specs.Choice.{pick, both, either, flip}

-- no test both fails and holds
pub never : {A : Type 0} → false ≡ true → A
never e = absurd (false≢true e)

pub not_both : {A : Type 0} {b : Bool} → b ≡ true → b ≡ false → A
not_both p q = never (sym q ∙ p)

-- a test that cannot hold fails
pub fails : (b : Bool) → (b ≡ true → ⊥) → b ≡ false
fails true h = absurd (h refl)
fails false h = refl

-- two tests are the same where the second holds with the first and fails with it
pub same_test : (a : Bool) {b : Bool} → (a ≡ true → b ≡ true) → (a ≡ false → b ≡ false) → a ≡ b
same_test true f g = sym (f refl)
same_test false f g = sym (g refl)

-- what holds on both ways holds of the choice
pub pick_all : {A : Type 0} (P : A → Type 0) (b : Bool) (x y : A) → (b ≡ true → P x) → (b ≡ false → P y) → P (pick b x y)
pick_all P true x y f g = f refl
pick_all P false x y f g = g refl

-- where the test is known, one way is enough
pub pick_yes : {A : Type 0} (P : A → Type 0) {b : Bool} {x : A} (y : A) → b ≡ true → P x → P (pick b x y)
pick_yes P {b} {x} y e p = pick_all P b x y (λ _. p) (λ f. not_both e f)

pub pick_no : {A : Type 0} (P : A → Type 0) {b : Bool} (x : A) {y : A} → b ≡ false → P y → P (pick b x y)
pick_no P {b} x {y} e p = pick_all P b x y (λ f. not_both f e) (λ _. p)

-- the choice itself, where the test is known
pub pick_true : {A : Type 0} (b : Bool) (x y : A) → b ≡ true → pick b x y ≡ x
pick_true b x y e = rw e

pub pick_false : {A : Type 0} (b : Bool) (x y : A) → b ≡ false → pick b x y ≡ y
pick_false b x y e = rw e

-- a choice between two that are the same
pub pick_same : {A : Type 0} (b : Bool) (x : A) → pick b x x ≡ x
pick_same true x = refl
pick_same false x = refl

-- what goes by a test of itself goes once
pub pick_again : {A : Type 0} (goes : A → Bool) (none x : A) → pick (goes (pick (goes x) none x)) none (pick (goes x) none x) ≡ pick (goes x) none x
pick_again {A} goes none x = go (goes x) refl
  where
    go : (b : Bool) → goes x ≡ b → pick (goes (pick b none x)) none (pick b none x) ≡ pick b none x
    go true e = pick_same (goes none) none
    go false e = rw e

-- both hold, and each of both that hold
pub both_true : (a b : Bool) → a ≡ true → b ≡ true → both a b ≡ true
both_true a b p q = rw (p, q)

pub both_left : (a b : Bool) → both a b ≡ true → a ≡ true
both_left true b e = refl
both_left false b e = e

pub both_right : (a b : Bool) → both a b ≡ true → b ≡ true
both_right true b e = e
both_right false true e = refl
both_right false false e = e

-- the first of several tests, and the others
pub in_turn : (a b : Bool) → both a b ≡ true → (a ≡ true) × (b ≡ true)
in_turn a b e = (both_left a b e, both_right a b e)

-- where the second of both is known
pub both_none : (a : Bool) → both a false ≡ false
both_none true = refl
both_none false = refl

pub both_all : (a : Bool) → both a true ≡ a
both_all true = refl
both_all false = refl

-- one of two holds, or neither
pub either_left : (a b : Bool) → a ≡ true → either a b ≡ true
either_left a b p = rw p

pub either_right : (a b : Bool) → b ≡ true → either a b ≡ true
either_right true b p = refl
either_right false b p = p

pub either_false : (a b : Bool) → either a b ≡ false → (a ≡ false) × (b ≡ false)
either_false true b e = (e, cc)
either_false false b e = (refl, e)

-- the opposite of a test
pub flip_true : (a : Bool) → flip a ≡ true → a ≡ false
flip_true true e = sym e
flip_true false e = refl

pub flip_false : (a : Bool) → flip a ≡ false → a ≡ true
flip_false true e = refl
flip_false false e = sym e

-- the code's `!`
pub not_flip : (a : Bool) → not a ≡ flip a
not_flip true = refl
not_flip false = refl

-- both tests, as std asks them
pub and_both : (a b : Bool) → (a && b) ≡ both a b
and_both true b = refl
and_both false b = refl
