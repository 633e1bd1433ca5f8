-- What a reader can refuse with: 1 to 6 (the paper: 'a bare reader 1 to 6'), whatever the message and its kind.
use Prim.Native.Nat.{ℕ, ◌≤◌}
use mathlib.Core.Path.{◌≡◌}
use mathlib.Core.List.{List}
use native.Mathlib.Omega.{arith}
use Rattle.std.specs.Prelude.{Result, Err, Ok}
use Rattle.message.specs.declared.reading.Sound.{Sound}
use Rattle.octets.proofs.ChoiceLaws.{never}
use Rattle.refusal.specs.declared.Refusal.{Refusal}
use Rattle.refusal.specs.Table.{refusal_number}
use Rattle.object.specs.declared.family.Family.{Family}
use Rattle.message.specs.Reading.{headed, vetted, by_vetted}
use Rattle.message.proofs.CasesLaws.{head_cases, vetted_cases}

-- a refusal of the header has a number of at most 6
pub head_refused : (f : Family) (m : List ℕ) (why : Refusal) → headed f m ≡ Err why → refusal_number why ≤ 6
head_refused f m why =
    head_cases (λ (h : Result ℕ Refusal). h ≡ Err why → refusal_number why ≤ 6) f m
    (λ w h e. let same : w ≡ why = cc in let low : refusal_number why ≤ 2 = rw same at h in omega arith)
    (λ e. never cc)

-- so has a refusal by the tests of a kind
pub vetted_refused : (f : Family) (code : ℕ) (mandatory m : List ℕ) (why : Refusal) → vetted f code mandatory m ≡ Err why → refusal_number why ≤ 6
vetted_refused f code mandatory m why =
    vetted_cases (λ (v : Result Sound Refusal). v ≡ Err why → refusal_number why ≤ 6) f code mandatory m
    (λ w h e. let same : w ≡ why = cc in rw same at h) (λ _ _ _ e. never cc)

-- a reader's answer that is a refusal has a number of at most 6
pub told_refused : {A : Type 0} (f : Family) (code : ℕ) (mandatory m : List ℕ) (fields : ℕ → A) (why : Refusal)
    → by_vetted (vetted f code mandatory m) Err (λ end. Ok (fields end)) ≡ Err why → refusal_number why ≤ 6
told_refused f code mandatory m fields why =
    vetted_cases (λ (v : Result Sound Refusal). by_vetted v Err (λ end. Ok (fields end)) ≡ Err why → refusal_number why ≤ 6) f code mandatory m
    (λ w h e. let same : w ≡ why = cc in rw same at h)
    (λ _ _ _ e. never cc)
