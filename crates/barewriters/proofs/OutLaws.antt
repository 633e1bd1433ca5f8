-- What a bare writer leaves, by what the writer that it calls leaves.
use Rattle.std.specs.Prelude.{Result}
use Prim.Native.Nat.{ℕ}
use mathlib.Core.Path.{◌≡◌, ap, ◌∙◌}
use mathlib.Core.Bool.{Bool}
use mathlib.Core.List.{List}
use Rattle.refusal.specs.declared.Refusal.{Refusal}
use Rattle.refusal.specs.declared.To.TheVariants.{Nobody}
use Rattle.object.specs.declared.family.Family.{Family}
use Rattle.message.specs.Writing.{Writes}
use Rattle.handed.specs.Code.{wrote_to}
use Rattle.barewriters.specs.Writing.{WritesOut}

-- what the writer leaves, with its answer told in one number
pub told_out_law : {f : Family} {b : Bool} {message before after : List ℕ} {w : Result ℕ Refusal} {n : ℕ} → n ≡ wrote_to Nobody w
    → Writes f b message before after w → WritesOut f b message before after n
told_out_law e w = record { told = e ∙ ap (wrote_to Nobody) w.told; left = w.left }
