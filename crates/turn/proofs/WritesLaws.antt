-- What a router's steps write is never too long.
use Prim.Native.Nat.{ℕ, ◌≤◌}
use mathlib.Core.List.{List, [], ◌∷◌}
use native.Mathlib.Omega.{arith}
use lib.ListN.{length}
use Rattle.octets.specs.Numbers.{number_of}
use Rattle.held.specs.Held.{held_bytes}
use Rattle.object.specs.declared.family.Family.TheVariants.{Misp, Misauth}
use Rattle.object.specs.Family.{limit_of}
use Rattle.position.specs.Position.{position_bytes}
use Rattle.message.specs.Writing.{object, number_object}
use Rattle.message.proofs.WritingLaws.{message_most}
use Rattle.misp.specs.Request.{RequestValues}
use Rattle.misauth.specs.AccessRequest.{access_request_bytes}
use Rattle.authenticator.proofs.AuthenticatorLaws.{sealed_length}
use Rattle.checked.specs.Checked.{authentication_data}
use Rattle.checked.proofs.SuccessLaws.{success_of_fits}
use Rattle.places.specs.declared.place.Session.{Session}
use Rattle.places.specs.declared.state.Settings.{Settings}
use Rattle.turn.specs.Writes.{asked_values, asked_of, success_for}

-- the success of a session
pub success_for_fits : (s : Settings) (to : List ℕ) (session : Session) → length (success_for s to session) ≤ limit_of Misp
unfolding success_for
success_for_fits s to session = success_of_fits session.stamp s.lifetime s.network session.key s.address to

-- an access request, before its Authenticator is put in
pub asked_fits : (s : Settings) (i : ℕ) (from m : List ℕ) (v : RequestValues) → length (access_request_bytes (asked_values s i from m v)) ≤ limit_of Misauth
unfolding access_request_bytes
asked_fits s i from m v =
    omega (
      arith,
      message_most Misauth 1 i
          (object 1 v.account ∷ object 200 (authentication_data from s.address m) ∷ object 201 v.check ∷ object 202 v.seed
          ∷ number_object 205 2 (number_of v.security) ∷ object 204 (position_bytes s.position) ∷ []),
    )

-- and with it
pub asked_of_fits : (s : Settings) (i : ℕ) (from m : List ℕ) (v : RequestValues) → length (asked_of s i from m v) ≤ limit_of Misauth
unfolding asked_of
asked_of_fits s i from m v =
    rw (sealed_length (held_bytes s.secret) (access_request_bytes (asked_values s i from m v))) (asked_fits s i from m v)
