-- A message that a writer wrote goes to the node's router.
use Rattle.std.specs.Prelude.{Ok}
use Prim.Native.Nat.{ℕ}
use mathlib.Core.Path.{◌≡◌, ap, ◌∙◌}
use mathlib.Core.Bool.{Bool}
use mathlib.Core.List.{List}
use Rattle.refusal.specs.declared.Outcome.{Outcome}
use Rattle.object.specs.declared.family.Family.TheVariants.{Misp}
use Rattle.message.specs.Writing.{Writes}
use Rattle.message.proofs.WroteLaws.{wrote_left}
use Rattle.node.specs.declared.Node.{Node}
use Rattle.refusal.specs.Step.{Leaves}
use Rattle.node.specs.State.{sent, sends}

-- what the writer left, and the outcome by the size that it told
pub written_sent : {in_range : Bool} {message before after : List ℕ} {k : ℕ} → Writes Misp in_range message before after (Ok k)
    → {q : Node} {o : Outcome Node} → o ≡ sent q k → Leaves (sends q message before) o after
written_sent w {q} e = record { told = e ∙ ap (sent q) (wrote_left w).size; left = (wrote_left w).starts }
