-- A message under a session key: the ways that its answer can go.
use mathlib.Core.Path.{◌≡◌, refl}
use mathlib.Core.Bool.{Bool, true, false}
use Rattle.refusal.specs.declared.Refusal.{Refusal}
use Rattle.refusal.specs.declared.Refusal.TheVariants.{OtherKey, NotExpected, WrongCheck}
use Rattle.refusal.specs.Step.{by_answer}
use Rattle.checked.specs.Checked.{under_key}

-- what holds after 8, 21 and 17, and where it was expected and is done, holds of all that can follow
pub under_key_all : {B : Type 0} (P : B → Type 0) (s expected right : Bool) (refuse : Refusal → B) (go : B)
    → P (refuse OtherKey) → P (refuse NotExpected) → P (refuse WrongCheck) → (expected ≡ true → P go)
    → P (by_answer (under_key s expected right) refuse go)
under_key_all P true expected right refuse go eight twenty_one seventeen done = eight
under_key_all P false false right refuse go eight twenty_one seventeen done = twenty_one
under_key_all P false true true refuse go eight twenty_one seventeen done = done refl
under_key_all P false true false refuse go eight twenty_one seventeen done = seventeen

-- where it is not expected, what would be done does not count
pub under_key_none : {B : Type 0} (s right : Bool) (refuse : Refusal → B) (x y : B)
    → by_answer (under_key s false right) refuse x ≡ by_answer (under_key s false right) refuse y
under_key_none true right refuse x y = refl
under_key_none false right refuse x y = refl
