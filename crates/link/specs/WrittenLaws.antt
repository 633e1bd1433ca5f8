-- The Code with which each message that a step writes starts.
use Rattle.std.specs.Prelude.{ℕ, ◌≡◌, refl, List, slice_index}
use Rattle.std.proofs.Common.{arith, ◌∙◌}
use Rattle.object.specs.declared.family.Family.{Family}
use Rattle.message.specs.Writing.{head_bytes, message_of}
use Rattle.message.proofs.AlikeLaws.{alike_byte}
use Rattle.beacons.specs.Beacon.{beacon_bytes}
use Rattle.misp.specs.Success.{success_bytes}
use Rattle.misp.specs.Failure.{failure_bytes}
use Rattle.misp.specs.Terminating.{terminating_bytes}
use Rattle.misauth.specs.AccessRequest.{AccessRequestValues}
use Rattle.misauth.specs.Reject.{reject_bytes}
use Rattle.checked.specs.Checked.{with_check, success_of, terminating_of}
use Rattle.places.specs.declared.place.Session.{Session}
use Rattle.places.specs.declared.state.Settings.{Settings}
use Rattle.turn.specs.Writes.{success_for}
use Rattle.router.specs.Beacon.{beacon_of}
use Rattle.server.specs.Login.{reject_of}
use Rattle.link.specs.SealedLaws.{sealed_alike}

-- a message starts with its Code
message_codes : (f : Family) (code second : ℕ) (objects : List ℕ) → slice_index (message_of f code second objects) 0 ≡ code
unfolding message_of head_bytes
message_codes f code second objects = refl

-- a reject starts with 3
pub reject_codes : (secret : List ℕ) (v : AccessRequestValues) → slice_index (reject_of secret v) 0 ≡ 3
unfolding reject_of reject_bytes
reject_codes secret v = alike_byte (sealed_alike secret _) 0 (omega arith) ∙ message_codes _ _ _ _

-- a failure starts with 8
pub failure_codes : (stamp reason : ℕ) → slice_index (failure_bytes stamp reason) 0 ≡ 8
unfolding failure_bytes
failure_codes stamp reason = message_codes _ _ _ _

-- a terminating message starts with 9
pub terminating_codes : (key sender receiver : List ℕ) (stamp : ℕ) → slice_index (terminating_of key sender receiver stamp) 0 ≡ 9
unfolding terminating_of with_check terminating_bytes
terminating_codes key sender receiver stamp = message_codes _ _ _ _

-- a beacon starts with 1
pub beacon_codes : (s : Settings) (now serial : ℕ) → slice_index (beacon_of s now serial) 0 ≡ 1
unfolding beacon_of beacon_bytes
beacon_codes s now serial = message_codes _ _ _ _

-- a success starts with 4
pub success_codes : (s : Settings) (to : List ℕ) (session : Session) → slice_index (success_for s to session) 0 ≡ 4
unfolding success_for success_of with_check success_bytes
success_codes s to session = message_codes _ _ _ _
