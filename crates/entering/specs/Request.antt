-- A request at the router: 20, 7, 1 to 6, 8 to 14 (the paper, 'Steps' and the orders).
use Rattle.message.specs.Reading.{by_result}
use Rattle.std.specs.Prelude.{ℕ, Bool, true, List, nat_le, nat_lt, ◌==◌, Option, Err, Some, None}
use Rattle.refusal.specs.Step.{done, refused_with, sends}
use Rattle.octets.specs.Choice.{pick, both, flip}
use Rattle.octets.specs.Same.{same_bytes}
use Rattle.object.specs.declared.family.Family.TheVariants.{Misauth}
use Rattle.refusal.specs.declared.Refusal.{Refusal}
use Rattle.refusal.specs.declared.Refusal.TheVariants.{OtherKey, SecurityType, NetworkNumber, StampAhead, StampOld, StampUsed, NoPlace, OutOfRange}
use Rattle.refusal.specs.declared.To.TheVariants.{Server, Address}
use Rattle.terms.specs.Terms.{lists, is_one_type}
use Rattle.clock.specs.Clock.{is_ahead, is_stale}
use Rattle.position.specs.Position.{in_range}
use Rattle.misp.specs.Request.{RequestValues, read_request, request_told}
use Rattle.misp.specs.Failure.{failure_bytes}
use Rattle.places.specs.declared.place.Session.{Session}
use Rattle.places.specs.declared.place.Place.{Place}
use Rattle.places.specs.declared.state.Router.{Router}
use Rattle.places.specs.Place.{no_session}
use Rattle.places.specs.State.{find_of, lowest_free}
use Rattle.turn.specs.Outcome.{Step, place_of, with_place, in_room}
use Rattle.turn.specs.Writes.{asked_of, success_for, type_reason, network_reason, old_reason, full_reason}

-- a failure with the request's stamp and the refusal's reason
unfoldable pub failing : Refusal → ℕ → Router → List ℕ → RequestValues → List ℕ → Step
failing why reason q from v out = sends (Err why) q (Address from) (failure_bytes v.stamp reason) out

-- the access request goes out for place i, and the state is then q'; where it cannot be written (18; DECISIONS, 18) it stays q
unfoldable pub asking : Router → Router → ℕ → List ℕ → List ℕ → RequestValues → List ℕ → Step
asking q q' i from m v out =
    pick (in_range q.settings.position)
    (sends done q' Server (asked_of q.settings i from m v) out)
    (refused_with OutOfRange q out)

-- the same stamp and check value
abbrev pub same_request : RequestValues → ℕ → List ℕ → Bool
same_request v stamp check = both (v.stamp == stamp) (same_bytes v.check check)

-- 'the same stamp and check value again .. while waiting'
unfoldable pub repeats_attempt : RequestValues → Place → Bool
repeats_attempt v p = both p.attempt.waiting (same_request v p.attempt.stamp p.attempt.check)

-- '.. while its session is open'
unfoldable pub repeats_session : RequestValues → Place → Bool
repeats_session v p = both p.session.live (same_request v p.session.stamp p.session.check)

-- a place whose attempt and last stamp are the request's
abbrev pub place_with : List ℕ → RequestValues → Session → Place
place_with address v session =
    record {
      taken = true;
      address = address;
      last = v.stamp;
      attempt = record { waiting = true; stamp = v.stamp; check = v.check };
      session = session;
    }

-- 'An accepted request becomes the place's attempt and last stamp, replacing an older attempt; an open session stays'
unfoldable pub attempted : RequestValues → Place → Place
attempted v p = place_with p.address v p.session

-- a new node's place
unfoldable pub placed : List ℕ → RequestValues → Place
placed from v = place_with from v no_session

-- a repeat while waiting (DECISIONS, 9), a repeat while its session is open (DECISIONS, 10 and 36), else 13, else accepted; the attempt counts first
-- (DECISIONS, 18)
unfoldable pub known : Router → ℕ → List ℕ → List ℕ → RequestValues → List ℕ → Step
known q i from m v out =
    let p = place_of i q in
    pick (repeats_attempt v p) (asking q q i from m v out)
    (pick (repeats_session v p) (sends done q (Address from) (success_for q.settings from p.session) out)
    (pick (nat_le v.stamp p.last) (refused_with StampUsed q out)
    (asking q (with_place i (attempted v p) q) i from m v out)))

-- 14: no place for a new node; 'a request without a place takes the lowest free place'
unfoldable pub unknown : Router → List ℕ → List ℕ → RequestValues → List ℕ → Step
unknown q from m v out =
    let i = lowest_free q.places in
    pick (nat_lt i 64) (asking q (with_place i (placed from v) q) i from m v out) (failing NoPlace full_reason q from v out)

-- by the place of the sender's address
abbrev pub by_place : Option ℕ → Router → List ℕ → List ℕ → RequestValues → List ℕ → Step
by_place (Some i) q from m v out = known q i from m v out
by_place None q from m v out = unknown q from m v out

-- 8 to 14, of a request that was read
unfoldable pub judged : Router → ℕ → List ℕ → List ℕ → RequestValues → List ℕ → Step
judged q now from m v out =
    pick v.s (refused_with OtherKey q out)
    (pick (flip (is_one_type v.security)) (failing SecurityType type_reason q from v out)
    (pick (flip (lists q.settings.network v.layers)) (failing NetworkNumber network_reason q from v out)
    (pick (is_ahead now v.stamp) (refused_with StampAhead q out)
    (pick (is_stale now v.stamp q.settings.window) (failing StampOld old_reason q from v out)
    (by_place (find_of q.places from) q from m v out)))))

-- 1 to 6, then 8 to 14
abbrev pub judged_request : Router → ℕ → List ℕ → List ℕ → List ℕ → Step
judged_request q now from m out = by_result (request_told m (read_request m)) (λ why. refused_with why q out) λ v. judged q now from m v out

-- a request at the router: 20, 7, then 1 to 6 and the rest
unfoldable pub requested : Router → ℕ → List ℕ → List ℕ → List ℕ → Step
requested r now from m out = in_room Misauth r now out λ q. judged_request q now from m out
