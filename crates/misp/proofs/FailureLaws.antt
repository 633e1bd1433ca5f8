-- The failure message: its objects as runs, and what its reader's answer says.
use Prim.Native.Nat.{ℕ}
use mathlib.Core.Path.{refl}
use mathlib.Core.List.{List, [], ◌∷◌}
use native.Mathlib.Omega.{arith}
use lib.Dec.{lit≤}
use Rattle.octets.specs.Numbers.{bytes_of}
use Rattle.object.specs.declared.family.Family.TheVariants.{Misp}
use Rattle.object.specs.Rule.{rule_of, rule_of_misp}
use Rattle.message.proofs.RunLaws.{Run, one, RunsProper, runs_size}
use Rattle.message.proofs.CarriedLaws.{Form}
use Rattle.message.proofs.ValueLaws.{proper_number}
use Rattle.misp.specs.Failure.{failure_bytes}

-- all objects in the writer's order
abbrev pub failure_runs : ℕ → ℕ → List Run
failure_runs stamp reason = one 2 (bytes_of 8 stamp) ∷ one 13 (bytes_of 2 reason) ∷ []

-- its bytes are the message of these, and not too many
pub failure_form : (stamp reason : ℕ) → Form Misp 8 0 (failure_runs stamp reason) (failure_bytes stamp reason)
unfolding failure_bytes bytes_of
failure_form stamp reason = record { is = refl; room = omega (arith, runs_size (failure_runs stamp reason)) }

-- its objects are such as a message can hold
pub failure_proper : (stamp reason : ℕ) → RunsProper Misp (failure_runs stamp reason)
unfolding rule_of rule_of_misp
failure_proper stamp reason = ((proper_number 8 stamp refl (lit≤ tt), tt), ((proper_number 2 reason refl (lit≤ tt), tt), tt))
