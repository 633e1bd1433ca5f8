-- The fields of a message as numbers (document 000, 4.5, and document 003, 5: the fields of each kind; DECISIONS, 56: how they are handed out).
use Rattle.std.specs.Prelude.{ℕ, ◌≡◌, List, [], ◌∷◌, replicate, Result, Option, Ok, Err, Some, None}
use Rattle.misauth.specs.declared.reject.Reject.{Reject}
use Rattle.misauth.specs.declared.accept.Accept.{Accept}
use Rattle.misauth.specs.declared.request.AccessRequest.{AccessRequest}
use Rattle.misp.specs.declared.terminating.Terminating.{Terminating}
use Rattle.misp.specs.declared.failure.Failure.{Failure}
use Rattle.misp.specs.declared.success.Success.{Success}
use Rattle.misp.specs.declared.request.Request.{Request}
use Rattle.beacons.specs.declared.beacon.Beacon.{Beacon}
use Rattle.beacons.specs.declared.beacon.Uplink.{Uplink}
use Rattle.position.specs.declared.Position.{Position}
use Rattle.octets.specs.declared.part.Part.{Part}
use Rattle.refusal.specs.declared.Refusal.{Refusal}
use Rattle.octets.specs.Choice.{bit_of}
use Rattle.refusal.specs.Table.{refusal_number}
use Rattle.position.specs.Position.{position_bytes}
use Rattle.handed.specs.Missing.{number_said}
use Rattle.bare.specs.declared.fields.UplinkNumbers.{UplinkNumbers}
use Rattle.bare.specs.declared.fields.GroupsPart.{GroupsPart}

-- the uplink of a beacon, where there is one
abbrev pub uplink_said : Option Uplink → UplinkNumbers
uplink_said None = record { given = 0; line = 0; up = 0; down = 0 }
uplink_said (Some u) = record { given = 1; line = u.line; up = u.up; down = u.down }

-- where the groups of an access request stand, where there are any
abbrev pub groups_said : Option Part → GroupsPart
groups_said None = record { given = 0; at = 0; len = 0 }
groups_said (Some p) = record { given = 1; at = p.at; len = p.len }

-- whether a beacon has a position
abbrev pub position_given : Option Position → ℕ
position_given None = 0
position_given (Some p) = 1

-- its twelve bytes (document 000, 4.4.8); twelve zeros where there is none
abbrev pub position_said : Option Position → List ℕ
position_said None = replicate 12 0
position_said (Some p) = position_bytes p

-- numbers, and the bytes of a position
pub record Handed : Type 0 where
  pub numbers : List ℕ
  pub position : List ℕ

-- the two as one
abbrev pub handed : List ℕ → List ℕ → Handed
handed numbers position = record { numbers = numbers; position = position }

-- the fields of a beacon (document 000, 4.5.2), those that may be missing last; a byte string is told by its offset in the message and its length
abbrev pub beacon_fields : Result Beacon Refusal → Result Handed Refusal
beacon_fields (Err why) = Err why
beacon_fields (Ok v) =
    Ok
    (handed
    (v.stamp ∷ v.groups.at ∷ v.groups.len ∷ v.serial ∷ v.interval ∷ v.security.at ∷ v.security.len ∷ v.layers.at ∷ v.layers.len
    ∷ position_given v.extras.position ∷ number_said v.extras.left ∷ number_said v.extras.filter
    ∷ (uplink_said v.extras.uplink).given ∷ (uplink_said v.extras.uplink).line ∷ (uplink_said v.extras.uplink).up
    ∷ (uplink_said v.extras.uplink).down ∷ number_said v.extras.channel ∷ [])
    (position_said v.extras.position))

-- of a request (4.5.3)
abbrev pub request_fields : Result Request Refusal → Result (List ℕ) Refusal
request_fields (Err why) = Err why
request_fields (Ok v) =
    Ok
    (bit_of v.s ∷ v.stamp ∷ v.security.at ∷ v.security.len ∷ v.check.at ∷ v.check.len ∷ v.account.at ∷ v.account.len
    ∷ v.seed.at ∷ v.seed.len ∷ v.layers.at ∷ v.layers.len ∷ number_said v.local ∷ [])

-- of a success (4.5.4)
abbrev pub success_fields : Result Success Refusal → Result (List ℕ) Refusal
success_fields (Err why) = Err why
success_fields (Ok v) =
    Ok
    (bit_of v.s ∷ v.stamp ∷ v.lifetime ∷ v.check.at ∷ v.check.len ∷ v.layers.at ∷ v.layers.len
    ∷ number_said v.local ∷ number_said v.remote ∷ [])

-- of a failure (4.5.5)
abbrev pub failure_fields : Result Failure Refusal → Result (List ℕ) Refusal
failure_fields (Err why) = Err why
failure_fields (Ok v) = Ok (v.stamp ∷ v.reason ∷ [])

-- of a terminating message (4.5.6)
abbrev pub terminating_fields : Result Terminating Refusal → Result (List ℕ) Refusal
terminating_fields (Err why) = Err why
terminating_fields (Ok v) = Ok (bit_of v.s ∷ v.stamp ∷ v.check.at ∷ v.check.len ∷ number_said v.reason ∷ [])

-- of an access request (document 003, 5.1); of objects that may repeat: how many there are
abbrev pub access_request_fields : Result AccessRequest Refusal → Result Handed Refusal
access_request_fields (Err why) = Err why
access_request_fields (Ok v) =
    Ok
    (handed
    (v.identifier ∷ v.account.at ∷ v.account.len ∷ v.authentication.at ∷ v.authentication.len ∷ v.check.at ∷ v.check.len ∷ v.seed.at ∷ v.seed.len
    ∷ v.security ∷ number_said v.router ∷ v.proxies ∷ v.sixes
    ∷ (groups_said v.groups).given ∷ (groups_said v.groups).at ∷ (groups_said v.groups).len ∷ [])
    (position_bytes v.position))

-- of an accept (5.2)
abbrev pub accept_fields : Result Accept Refusal → Result (List ℕ) Refusal
accept_fields (Err why) = Err why
accept_fields (Ok v) = Ok (v.identifier ∷ v.key.at ∷ v.key.len ∷ v.check.at ∷ v.check.len ∷ v.proxies ∷ [])

-- of a reject (5.3)
abbrev pub reject_fields : Result Reject Refusal → Result (List ℕ) Refusal
reject_fields (Err why) = Err why
reject_fields (Ok v) = Ok (v.identifier ∷ v.proxies ∷ [])

-- 0 where the message is read
abbrev pub told_number : {A : Type 0} → Result A Refusal → ℕ
told_number (Err why) = refusal_number why
told_number (Ok fields) = 0

-- after a refusal what was lent stays
abbrev pub told_out : {A : Type 0} → Result A Refusal → A → A
told_out (Err why) before = before
told_out (Ok fields) before = fields

-- one form for all kinds
pub record HandsOut {A : Type 0} (t : Result A Refusal) (before : A) (number : ℕ) (after : A) : Type 0 where
  pub told : number ≡ told_number t
  pub out : after ≡ told_out t before
