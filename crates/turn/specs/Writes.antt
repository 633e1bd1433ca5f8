-- The messages that a router's steps write, but its beacon: mandatory objects only, with S 0 (the paper, 'Steps').
use Rattle.std.specs.Prelude.{ℕ, List, [], None}
use Rattle.octets.specs.Numbers.{number_of}
use Rattle.held.specs.Held.{held_bytes}
use Rattle.misp.specs.Request.{RequestValues}
use Rattle.misauth.specs.AccessRequest.{AccessRequestValues, access_request_bytes}
use Rattle.authenticator.specs.Authenticator.{sealed}
use Rattle.checked.specs.Checked.{authentication_data, success_of}
use Rattle.places.specs.declared.place.Session.{Session}
use Rattle.places.specs.declared.state.Settings.{Settings}

-- 'an access request goes out with the place number as Identifier'; `m` is the node's message and v what it says.
-- It carries what document 004, 2.4 names, the router's position, and the type as it stands in object 18 (DECISIONS, 4)
abbrev pub asked_values : Settings → ℕ → List ℕ → List ℕ → RequestValues → AccessRequestValues
asked_values s i from m v =
    record {
      identifier = i;
      account = v.account;
      authentication = authentication_data from s.address m;
      check = v.check;
      seed = v.seed;
      security = number_of v.security;
      position = s.position;
      router = None;
      proxies = [];
      sixes = [];
      groups = None;
    }

-- the same with its Authenticator
unfoldable pub asked_of : Settings → ℕ → List ℕ → List ℕ → RequestValues → List ℕ
asked_of s i from m v = sealed (held_bytes s.secret) (access_request_bytes (asked_values s i from m v))

-- 'a success goes out': the session's stamp, L as it is, our network number, under the session key
unfoldable pub success_for : Settings → List ℕ → Session → List ℕ
success_for s to session = success_of session.key s.address to session.stamp s.lifetime s.network

-- the reason of the failure that refusal 9 sends; this and the next four are of document 000, 4.4.11 (DECISIONS, 5)
abbrev pub type_reason : ℕ
type_reason = 130

-- that of refusal 10
abbrev pub network_reason : ℕ
network_reason = 130

-- that of refusal 12
abbrev pub old_reason : ℕ
old_reason = 1

-- that of refusal 14
abbrev pub full_reason : ℕ
full_reason = 129

-- that of the failure that a reject leads to
abbrev pub reject_reason : ℕ
reject_reason = 128
