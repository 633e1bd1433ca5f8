-- The security types that we take are 2 and 3.
use Prim.Native.Nat.{ℕ, ◌<◌}
use native.Mathlib.Omega.{arith}
use mathlib.Core.Bool.{Bool, true, false}
use mathlib.Core.Path.{◌≡◌, refl}
use mathlib.Core.Logic.{◌⊎◌, inl, inr, ⊎_elim}
use lib.Dec.{eqb}
use borrow.Author.Tests.{eqb-true, eq-eqb}
use Rattle.octets.specs.Choice.{either}
use Rattle.octets.proofs.ChoiceLaws.{either_left, either_right}
use Rattle.terms.specs.Terms.{takes_type}

-- one that the test passes is 2 or 3
pub takes_type_law : (kind : ℕ) → takes_type kind ≡ true → (kind ≡ 2) ⊎ (kind ≡ 3)
unfolding takes_type
takes_type_law kind = go (eqb kind 2) refl
  where
    go : (b : Bool) → eqb kind 2 ≡ b → either b (eqb kind 3) ≡ true → (kind ≡ 2) ⊎ (kind ≡ 3)
    go true e h = inl (eqb-true kind 2 e)
    go false e h = inr (eqb-true kind 3 h)

-- and so fits two bytes
pub takes_small : (kind : ℕ) → takes_type kind ≡ true → kind < 65536
takes_small kind e = ⊎_elim (λ (f : kind ≡ 2). omega arith) (λ (f : kind ≡ 3). omega arith) (takes_type_law kind e)

-- 2 and 3 pass it
pub type_takes : (kind : ℕ) → (kind ≡ 2) ⊎ (kind ≡ 3) → takes_type kind ≡ true
unfolding takes_type
type_takes kind = ⊎_elim (λ e. either_left (eqb kind 2) (eqb kind 3) (eq-eqb kind 2 e)) (λ e. either_right (eqb kind 2) (eqb kind 3) (eq-eqb kind 3 e))
