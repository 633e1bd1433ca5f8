-- A message written with its Authenticator zero, and then sealed.
use Rattle.std.specs.Prelude.{Ok, Err}
use Prim.Native.Nat.{ℕ}
use mathlib.Core.Path.{◌≡◌}
use mathlib.Core.Bool.{Bool}
use mathlib.Core.List.{List, ◌++◌}
use lib.ListN.{length, take, drop}
use Rattle.refusal.specs.declared.Refusal.{Refusal}
use Rattle.object.specs.declared.family.Family.{Family}
use Rattle.message.specs.Writing.{Writes}
use Rattle.message.proofs.WroteLaws.{wrote_left, refused_instead, bytes_instead}
use Rattle.authenticator.specs.Authenticator.{sealed}
use Rattle.authenticator.proofs.AuthenticatorLaws.{sealed_length, sealed_front}

module _ {f : Family} {in_range : Bool} {message before middle : List ℕ} (secret : List ℕ) where
  -- a refusal is passed on
  pub seal_refused : {why : Refusal} → Writes f in_range message before middle (Err why) → Writes f in_range (sealed secret message) before middle (Err why)
  seal_refused w = refused_instead (sealed secret message) (sealed_length secret message) w

  -- what was written is sealed where it stands
  pub seal_bytes : {n : ℕ} {after : List ℕ} → Writes f in_range message before middle (Ok n)
      → after ≡ sealed secret (take n middle) ++ drop n middle → Writes f in_range (sealed secret message) before after (Ok n)
  seal_bytes w e =
      bytes_instead (sealed secret message) (sealed_length secret message) w
      (sealed_front secret message (drop (length message) before) (wrote_left w).starts (wrote_left w).size e)
