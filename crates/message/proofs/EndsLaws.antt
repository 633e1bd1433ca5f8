-- A message that passes the tests of its kind ends where its Length says.
use Prim.Native.Nat.{ℕ}
use mathlib.Core.Path.{◌≡◌, refl, sym}
use mathlib.Core.List.{List}
use Rattle.std.specs.Prelude.{Result, Ok}
use Rattle.message.specs.declared.reading.Sound.{Sound}
use Rattle.octets.proofs.ChoiceLaws.{never}
use Rattle.refusal.specs.declared.Refusal.{Refusal}
use Rattle.object.specs.declared.family.Family.{Family}
use Rattle.message.specs.Reading.{length_of, headed, vetted, by_vetted}
use Rattle.message.proofs.CasesLaws.{head_cases, vetted_cases}

-- a header that passes its tests ends the message where its Length says
pub ends_at_length : (f : Family) (m : List ℕ) (end : ℕ) → headed f m ≡ Ok end → end ≡ length_of m
ends_at_length f m end =
    head_cases (λ (h : Result ℕ Refusal). h ≡ Ok end → end ≡ length_of m) f m
    (λ _ _ e. never cc) (λ e. let same : length_of m ≡ end = cc in sym same)

module _ {A : Type 0} (f : Family) (code : ℕ) (mandatory m : List ℕ) (refuse : Refusal → A) where
  -- what holds of every refusal, and of the fields of a message that ends where its Length says, holds of what is read
  pub read_all : (P : A → Type 0) (fields : ℕ → A) → ((why : Refusal) → P (refuse why)) → P (fields (length_of m))
      → P (by_vetted (vetted f code mandatory m) refuse fields)
  read_all P fields all there =
      vetted_cases (λ (v : Result Sound Refusal). P (by_vetted v refuse fields)) f code mandatory m (λ why _. all why) (λ _ _ _. there)

  -- fields that are the same where Length says are read as the same
  pub read_alike : (fields fields' : ℕ → A) → fields (length_of m) ≡ fields' (length_of m)
      → by_vetted (vetted f code mandatory m) refuse fields ≡ by_vetted (vetted f code mandatory m) refuse fields'
  read_alike fields fields' e =
      vetted_cases (λ (v : Result Sound Refusal). by_vetted v refuse fields ≡ by_vetted v refuse fields') f code mandatory m (λ _ _. refl) (λ _ _ _. e)
