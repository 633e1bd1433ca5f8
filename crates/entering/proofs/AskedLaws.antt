-- The access request: the code gives its writer what the definition says, and it goes out for a place or cannot be written.
use Rattle.std.specs.Prelude.{Result, None}
use Prim.Native.Nat.{ℕ, ◌≤◌}
use mathlib.Core.Path.{◌≡◌, sym, subst, ◌∙◌}
use mathlib.Core.Bool.{true, false}
use mathlib.Core.List.{List, []}
use lib.ListN.{length}
use Rattle.refusal.specs.declared.Outcome.{Outcome}
use Rattle.refusal.specs.Step.{done, by_writer}
use Rattle.refusal.specs.declared.Refusal.{Refusal}
use Rattle.octets.specs.Choice.{both}
use Rattle.octets.proofs.ChoiceLaws.{both_all}
use Rattle.held.specs.Held.{held_bytes}
use Rattle.refusal.specs.declared.To.TheVariants.{Server}
use Rattle.position.specs.Position.{in_range}
use Rattle.object.specs.declared.family.Family.TheVariants.{Misauth}
use Rattle.object.specs.Family.{limit_of}
use Rattle.message.specs.Writing.{is_below, is_name, Writes}
use Rattle.misp.specs.Request.{RequestValues}
use Rattle.misauth.specs.declared.request.AccessRequestFields.{AccessRequestFields}
use Rattle.misauth.specs.AccessRequest.{AccessRequestValues, access_request_bytes, access_request_in_range, runs_in_range, access_request_given, given_in_range}
use Rattle.misauth.proofs.GivenRunLaws.{run_none, values_none}
use Rattle.authenticator.specs.Authenticator.{sealed}
use Rattle.places.specs.declared.state.Settings.{Settings}
use Rattle.places.specs.declared.state.Router.{Router}
use Rattle.refusal.specs.Step.{Leaves}
use Rattle.turn.specs.Writes.{asked_of}
use Rattle.turn.proofs.StepLaws.{sent_where}
use Rattle.turn.proofs.WritesLaws.{asked_of_fits}
use Rattle.entering.specs.Request.{asking}
use Rattle.entering.specs.Parts.{fields_for}

-- an access request as the code gives it to its writer: no run, no groups
module _ (s : Settings) (i : ℕ) (from m : List ℕ) (v : RequestValues) where
  abbrev as_given : AccessRequestValues
  as_given = access_request_given (fields_for s i from m v) v.account [] [] None

  -- its bytes, sealed, are those that the definition says
  asked_is : asked_of s i from m v ≡ sealed (held_bytes s.secret) (access_request_bytes as_given)
  unfolding asked_of access_request_given fields_for
  asked_is = rw values_none

  -- it is in range where the position is
  asked_range : is_name v.account ≡ true → given_in_range (fields_for s i from m v) v.account [] [] None ≡ in_range s.position
  unfolding given_in_range access_request_in_range runs_in_range access_request_given fields_for is_below
  asked_range name = rw (name, run_none 33, run_none 95) (both_all (both (in_range s.position) true) ∙ both_all (in_range s.position))

  -- what the writer of access requests leaves, given what the code gives it
  pub asked_written : {fields : AccessRequestFields} {account before middle : List ℕ} {r r' : Result ℕ Refusal} → is_name v.account ≡ true
      → fields ≡ fields_for s i from m v → account ≡ v.account → r ≡ r'
      → Writes Misauth (given_in_range fields account [] [] None) (access_request_bytes (access_request_given fields account [] [] None)) before middle r
      → Writes Misauth (in_range s.position) (access_request_bytes as_given) before middle r'
  asked_written name f a e w = rw (f, a, e, asked_range name) at w

  -- the same with the Authenticator, as the router sends it
  pub asked_sealed : {before after : List ℕ} {r : Result ℕ Refusal}
      → Writes Misauth (in_range s.position) (sealed (held_bytes s.secret) (access_request_bytes as_given)) before after r
      → Writes Misauth (in_range s.position) (asked_of s i from m v) before after r
  asked_sealed w = rw asked_is w

-- the access request goes out, or cannot be written
pub asking_left : (q q' : Router) (i : ℕ) (from m : List ℕ) (v : RequestValues) (out : List ℕ) {s : Settings} {w : Result ℕ Refusal} {o : Outcome Router} {after : List ℕ}
    → q.settings ≡ s → Writes Misauth (in_range s.position) (asked_of s i from m v) out after w → limit_of Misauth ≤ length out
    → o ≡ by_writer w done q q' Server → Leaves (asking q q' i from m v out) o after
unfolding asking
asking_left q q' i from m v out {s} {w} {o} {after} e x large told =
    let y = subst (λ (z : Settings). Writes Misauth (in_range z.position) (asked_of z i from m v) out after w) (sym e) x in
    let fits = asked_of_fits q.settings i from m v in
    sent_where Misauth (in_range q.settings.position) done q q' Server y fits large told
