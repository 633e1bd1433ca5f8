-- What a call leaves, whatever it hands back; and that an answer has one value.
use Rattle.std.specs.Prelude.{Result, Ok}
use Prim.Native.Nat.{ℕ}
use mathlib.Core.Path.{◌≡◌, refl, sym, ap, ◌∙◌}
use mathlib.Core.List.{List}
use Rattle.refusal.specs.declared.Refusal.{Refusal}
use Rattle.refusal.specs.Step.{StepOf, Leaves}

-- the same step leaves the same
pub leaves_same : {O : Type 0} {s t : StepOf O} {o : O} {after : List ℕ} → t ≡ s → Leaves s o after → Leaves t o after
leaves_same {O} e l =
    record { told = l.told ∙ ap (λ (x : StepOf O). x.outcome) (sym e); left = l.left ∙ ap (λ (x : StepOf O). x.out) (sym e) }

-- a call that leaves a step's bytes and hands back its outcome leaves what the step says
pub leaves_told : {O : Type 0} {s : StepOf O} {o : O} → o ≡ s.outcome → Leaves s o s.out
leaves_told e = record { told = e; left = refl }

-- an answer that is no refusal has one value
pub one_value : {A : Type 0} {v w : A} → ◌≡◌ {A = Result A Refusal} (Ok v) (Ok w) → v ≡ w
one_value e = cc
