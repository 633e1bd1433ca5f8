-- A place, and what lapses (the paper, 'Steps': 'The router has 64 places ..', 'what has lapsed goes').
use Rattle.std.specs.Prelude.{ℕ, true, false, [], replicate}
use Rattle.octets.specs.Choice.{pick}
use Rattle.clock.specs.Clock.{is_stale, is_over}
use Rattle.places.specs.declared.place.Attempt.{Attempt}
use Rattle.places.specs.declared.place.Session.{Session}
use Rattle.places.specs.declared.place.Place.{Place}

-- 'perhaps a waiting attempt': none
abbrev pub no_attempt : Attempt
no_attempt = record { waiting = false; stamp = 0; check = replicate 16 0 }

-- 'perhaps an open session': none
abbrev pub no_session : Session
no_session = record { live = false; stamp = 0; check = replicate 16 0; key = replicate 16 0; since = 0 }

-- the fresh place: not taken (DECISIONS, 29), every field zero
abbrev pub fresh_place : Place
fresh_place = record { taken = false; address = replicate 6 0; last = 0; attempt = no_attempt; session = no_session }

-- what the prover takes an array of places to hold past its end, where no code reads: for proofs alone
abbrev pub no_place : Place
no_place =
    record {
      taken = false;
      address = [];
      last = 0;
      attempt = record { waiting = false; stamp = 0; check = [] };
      session = record { live = false; stamp = 0; check = []; key = []; since = 0 };
    }

-- an attempt goes when now - stamp > W
unfoldable pub attempt_at : ℕ → ℕ → Attempt → Attempt
attempt_at now window a = pick (is_stale now a.stamp window) no_attempt a

-- a session goes when now - since > L x U
unfoldable pub session_at : ℕ → ℕ → ℕ → Session → Session
session_at now lifetime unit s = pick (is_over now s.since lifetime unit) no_session s

-- a taken place with its address and last stamp, and this attempt and session
abbrev pub kept_place : Place → Attempt → Session → Place
kept_place p a s = record { taken = true; address = p.address; last = p.last; attempt = a; session = s }

-- what has lapsed goes: the attempt, the session, 'then a place with no session whose last stamp is more than W old'; a place that is not taken stays as it
-- is (DECISIONS, 18)
unfoldable pub place_at : ℕ → ℕ → ℕ → ℕ → Place → Place
place_at now window lifetime unit p =
    let a = attempt_at now window p.attempt in
    let s = session_at now lifetime unit p.session in
    pick p.taken
    (pick s.live (kept_place p a s) (pick (is_stale now p.last window) fresh_place (kept_place p a s)))
    p
