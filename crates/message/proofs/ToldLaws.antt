-- What a reader's answer says of a message, once the tests are made.
use Prim.Native.Nat.{ℕ}
use mathlib.Core.Path.{◌≡◌, refl}
use mathlib.Core.List.{List}
use lib.ListN.{get_or}
use Rattle.std.specs.Prelude.{Result, Ok, Err}
use Rattle.message.specs.declared.reading.Sound.{Sound}
use Rattle.octets.proofs.ChoiceLaws.{never}
use Rattle.refusal.specs.declared.Refusal.{Refusal}
use Rattle.object.specs.declared.family.Family.{Family}
use Rattle.message.specs.Reading.{length_of, vetted, by_vetted, sound, by_result}
use Rattle.message.proofs.CasesLaws.{vetted_cases}

-- what is made of a reader's answer is made of each way that it goes
pub told_vetted : {A B : Type 0} (tell : A → B) (v : Result Sound Refusal) (refuse : Refusal → A) (go : ℕ → A)
    → tell (by_vetted v refuse go) ≡ by_vetted v (λ why. tell (refuse why)) (λ end. tell (go end))
told_vetted tell (Err why) refuse go = refl
told_vetted tell (Ok passed) refuse go = refl

-- what holds of each way that a step goes after an answer holds of the step
pub result_all : {A B : Type 0} (P : B → Type 0) (t : Result A Refusal) (refuse : Refusal → B) (go : A → B)
    → ((why : Refusal) → t ≡ Err why → P (refuse why)) → ((v : A) → t ≡ Ok v → P (go v)) → P (by_result t refuse go)
result_all P (Err why) refuse go out pass = out why refl
result_all P (Ok v) refuse go out pass = pass v refl

-- and after the tests of a kind
pub vetted_all : {A : Type 0} (P : A → Type 0) (v : Result Sound Refusal) (refuse : Refusal → A) (go : ℕ → A)
    → ((why : Refusal) → v ≡ Err why → P (refuse why)) → ((end : ℕ) → v ≡ sound end → P (go end)) → P (by_vetted v refuse go)
vetted_all P (Err why) refuse go out pass = out why refl
vetted_all P (Ok passed) refuse go out pass = pass passed.end refl

-- one answer says one set of fields
pub got_same : {A : Type 0} {t : Result A Refusal} {v w : A} → t ≡ Ok v → t ≡ Ok w → v ≡ w
got_same e f = cc

-- what is read has the Code of its kind, and is the fields where Length says
pub told_from : {A : Type 0} (f : Family) (code : ℕ) (mandatory m : List ℕ) (fields : ℕ → A) (v : A)
    → by_vetted (vetted f code mandatory m) Err (λ end. Ok (fields end)) ≡ Ok v → (get_or m 0 0 ≡ code) × (fields (length_of m) ≡ v)
told_from f code mandatory m fields v =
    vetted_cases (λ (x : Result Sound Refusal). by_vetted x Err (λ end. Ok (fields end)) ≡ Ok v → (get_or m 0 0 ≡ code) × (fields (length_of m) ≡ v))
    f code mandatory m (λ why h e. never cc) (λ c _ _ e. (c, cc))
