-- A message written and then sealed is what the definition answers with; a writer's refusal does not occur.
use Rattle.std.specs.Prelude.{Result}
use Prim.Native.Nat.{ℕ, ◌≤◌}
use mathlib.Core.Path.{◌≡◌, refl}
use mathlib.Core.Bool.{Bool, true}
use mathlib.Core.List.{List, [], ◌++◌}
use lib.ListN.{length, take, drop}
use Rattle.refusal.specs.declared.Refusal.{Refusal}
use Rattle.object.specs.declared.family.Family.TheVariants.{Misauth}
use Rattle.object.specs.Family.{limit_of}
use Rattle.message.specs.Writing.{Writes}
use Rattle.message.proofs.WroteLaws.{whole_told, whole_left}
use Rattle.misauth.specs.Run.{is_run, run_values}
use Rattle.misauth.specs.Accept.{accept_values, accept_bytes}
use Rattle.misauth.specs.Reject.{reject_values, reject_bytes}
use Rattle.misauth.proofs.AcceptLaws.{accept_fits}
use Rattle.misauth.proofs.RejectLaws.{reject_fits}
use Rattle.misauth.proofs.GivenRunLaws.{run_none, values_none}
use Rattle.icv.specs.Icv.{session_key, masked}
use Rattle.authenticator.specs.Authenticator.{sealed}
use Rattle.authenticator.proofs.AuthenticatorLaws.{sealed_length, sealed_front}
use Rattle.refusal.specs.Step.{Leaves}
use Rattle.server.specs.Login.{sends}
use Rattle.server.specs.Parts.{by_written}
use Rattle.refusal.proofs.StepLaws.{leaves_same}

-- a message in range and not too long, into a buffer with room
message_sends : (message before after : List ℕ) (r : Result ℕ Refusal) {in_range : Bool} → Writes Misauth in_range message before after r → in_range ≡ true
    → length message ≤ limit_of Misauth → limit_of Misauth ≤ length before → (secret : List ℕ) {o : Result ℕ Refusal} {out : List ℕ}
    → Leaves (by_written r secret after) o out → Leaves (sends (sealed secret message) before) o out
message_sends message before after r w range short room secret l =
    let n : ℕ = length message in
    let v : Writes Misauth true message before after r = rw range at w in
    let front : sealed secret (take n after) ++ drop n after ≡ sealed secret message ++ drop n before =
    sealed_front secret message (drop n before) (whole_left v short room) refl refl in
    let e : sends (sealed secret message) before ≡ by_written r secret after = rw (whole_told v short room, front, sealed_length secret message) in
    leaves_same e l

-- the accept
module _ (secret password check seed before : List ℕ) (identifier : ℕ) {session key after : List ℕ} {r : Result ℕ Refusal} (of_session : session ≡ session_key password seed)
    (of_key : key ≡ masked secret check session)
    (w : Writes Misauth (is_run 33 []) (accept_bytes (accept_values identifier key check (run_values []))) before after r) where
  abbrev accepted : List ℕ
  accepted = accept_bytes (accept_values identifier (masked secret check (session_key password seed)) check [])

  -- the writer is given this message's fields
  accept_written : Writes Misauth (is_run 33 []) accepted before after r
  accept_written = rw (values_none, of_key, of_session) at w

  -- it goes out with its Authenticator
  pub accept_sends : limit_of Misauth ≤ length before → {o : Result ℕ Refusal} {out : List ℕ} → Leaves (by_written r secret after) o out
      → Leaves (sends (sealed secret accepted) before) o out
  accept_sends room = message_sends accepted before after r accept_written (run_none 33) (accept_fits identifier _ check) room secret

-- the reject
module _ (secret before : List ℕ) (identifier : ℕ) {after : List ℕ} {r : Result ℕ Refusal}
    (w : Writes Misauth (is_run 33 []) (reject_bytes (reject_values identifier (run_values []))) before after r) where
  abbrev rejected : List ℕ
  rejected = reject_bytes (reject_values identifier [])

  -- the writer is given this message's fields
  reject_written : Writes Misauth (is_run 33 []) rejected before after r
  reject_written = rw values_none at w

  -- it goes out with its Authenticator
  pub reject_sends : limit_of Misauth ≤ length before → {o : Result ℕ Refusal} {out : List ℕ} → Leaves (by_written r secret after) o out
      → Leaves (sends (sealed secret rejected) before) o out
  reject_sends room = message_sends rejected before after r reject_written (run_none 33) (reject_fits identifier) room secret
