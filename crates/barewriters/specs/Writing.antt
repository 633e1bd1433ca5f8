-- A bare writer over the boundary: it meets 20 and 18 alone (the paper, 'Numbers a call can hand back'; DECISIONS, 56: how fields are handed in).
use Rattle.std.specs.Prelude.{ℕ, ◌≡◌, Bool, true, false, List, Option, Some, None}
use Rattle.beacons.specs.declared.beacon.Uplink.{Uplink}
use Rattle.position.specs.declared.Position.{Position}
use Rattle.object.specs.declared.family.Family.{Family}
use Rattle.object.specs.declared.family.Family.TheVariants.{Misp, Misauth}
use Rattle.refusal.specs.declared.To.TheVariants.{Nobody}
use Rattle.position.specs.Position.{position_of}
use Rattle.message.specs.Writing.{wrote_of, left_of}
use Rattle.beacons.specs.declared.beacon.Extras.{Extras}
use Rattle.beacons.specs.Beacon.{BeaconValues, beacon_in_range, beacon_bytes}
use Rattle.misp.specs.Request.{RequestValues, request_in_range, request_bytes}
use Rattle.misp.specs.Success.{SuccessValues, success_in_range, success_bytes}
use Rattle.misp.specs.Failure.{failure_bytes}
use Rattle.misp.specs.Terminating.{TerminatingValues, terminating_in_range, terminating_bytes}
use Rattle.misauth.specs.declared.request.AccessRequestFields.{AccessRequestFields}
use Rattle.misauth.specs.AccessRequest.{access_request_bytes, groups_given, access_request_given, given_in_range}
use Rattle.misauth.specs.Accept.{accept_bytes, accept_values}
use Rattle.misauth.specs.Reject.{reject_bytes, reject_values}
use Rattle.misauth.specs.Run.{is_run, run_values}
use Rattle.handed.specs.Code.{wrote_to}
use Rattle.handed.specs.Missing.{optional_said}

-- a position, where it is given
abbrev pub position_where : Bool → List ℕ → Option Position
position_where true bytes = Some (position_of bytes)
position_where false bytes = None

-- an uplink, where it is given
abbrev pub uplink_where : Bool → ℕ → ℕ → ℕ → Option Uplink
uplink_where true line up down = Some (record { line = line; up = up; down = down })
uplink_where false line up down = None

-- what may stand in a beacon besides its mandatory objects
abbrev pub extras_said : Option Position → ℕ → ℕ → Option Uplink → ℕ → Extras
extras_said placed left filter linked channel =
    record { position = placed; left = optional_said left; filter = optional_said filter; uplink = linked; channel = optional_said channel }

-- the fields of an access request that its writer takes by value
abbrev pub access_said : ℕ → List ℕ → List ℕ → List ℕ → ℕ → List ℕ → ℕ → AccessRequestFields
access_said identifier authentication check seed security place router =
    record {
      identifier = identifier;
      authentication = authentication;
      check = check;
      seed = seed;
      security = security;
      position = position_of place;
      router = optional_said router;
    }

-- what every bare writer leaves: its number, and every byte of the lent buffer (the paper, 'How much the contracts say'); to whom the
-- message goes is the caller's business, so the number names no destination
pub record WritesOut (f : Family) (in_range : Bool) (message before after : List ℕ) (number : ℕ) : Type 0 where
  pub told : number ≡ wrote_to Nobody (wrote_of f in_range message before)
  pub left : after ≡ left_of f in_range message before

-- a beacon
abbrev pub WritesBeacon : BeaconValues → List ℕ → List ℕ → ℕ → Type 0
WritesBeacon v = WritesOut Misp (beacon_in_range v) (beacon_bytes v)

-- a request
abbrev pub WritesRequest : RequestValues → List ℕ → List ℕ → ℕ → Type 0
WritesRequest v = WritesOut Misp (request_in_range v) (request_bytes v)

-- a success
abbrev pub WritesSuccess : SuccessValues → List ℕ → List ℕ → ℕ → Type 0
WritesSuccess v = WritesOut Misp (success_in_range v) (success_bytes v)

-- a failure
abbrev pub WritesFailure : ℕ → ℕ → List ℕ → List ℕ → ℕ → Type 0
WritesFailure stamp reason = WritesOut Misp true (failure_bytes stamp reason)

-- a terminating message
abbrev pub WritesTerminating : TerminatingValues → List ℕ → List ℕ → ℕ → Type 0
WritesTerminating v = WritesOut Misp (terminating_in_range v) (terminating_bytes v)

-- an access request; the Authenticator of a MISAUTH message stays zero
abbrev pub WritesAccessRequest : AccessRequestFields → List ℕ → List ℕ → List ℕ → Bool → List ℕ → List ℕ → List ℕ → ℕ → Type 0
WritesAccessRequest fields account proxies sixes grouped groups =
    WritesOut Misauth (given_in_range fields account proxies sixes (groups_given grouped groups))
    (access_request_bytes (access_request_given fields account proxies sixes (groups_given grouped groups)))

-- an accept
abbrev pub WritesAccept : ℕ → List ℕ → List ℕ → List ℕ → List ℕ → List ℕ → ℕ → Type 0
WritesAccept identifier key check proxies = WritesOut Misauth (is_run 33 proxies) (accept_bytes (accept_values identifier key check (run_values proxies)))

-- a reject
abbrev pub WritesReject : ℕ → List ℕ → List ℕ → List ℕ → ℕ → Type 0
WritesReject identifier proxies = WritesOut Misauth (is_run 33 proxies) (reject_bytes (reject_values identifier (run_values proxies)))
