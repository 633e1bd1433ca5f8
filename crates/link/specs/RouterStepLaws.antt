-- The calls of the router as events: what has lapsed goes, and then at most one place changes. What a call does is said by `effect` (theorems, RouterEffects);
-- here it is said as what a router can do in a run (Can), with what went out as messages sent.
use Rattle.std.specs.Prelude.{ℕ, ◌≤◌, ◌≡◌, refl, true, List, [], ◌∷◌, replicate, Result, Err, ⊤, Ok}
use Rattle.std.proofs.Common.{inl, inr}
use Rattle.refusal.specs.Step.{done, sends}
use Rattle.refusal.specs.declared.Refusal.{Refusal}
use Rattle.octets.proofs.ChoiceLaws.{never}
use Rattle.refusal.specs.declared.To.TheVariants.{Everyone, Server, Address}
use Rattle.misp.specs.Request.{RequestValues}
use Rattle.misp.specs.Failure.{failure_bytes}
use Rattle.misauth.specs.Accept.{AcceptValues, read_accept, accept_told}
use Rattle.checked.specs.Checked.{terminating_of}
use Rattle.places.specs.declared.place.Place.{Place}
use Rattle.places.specs.declared.state.Router.{Router}
use Rattle.places.specs.State.{lapsed_at, lowest_free}
use Rattle.turn.specs.Outcome.{Step, place_of, with_place}
use Rattle.turn.specs.Writes.{asked_of, success_for, reject_reason}
use Rattle.router.specs.Beacon.{beacon_of, beaconed}
use Rattle.entering.specs.Request.{attempted, placed, requested}
use Rattle.settling.specs.Reply.{settled, opened_by, awaits, replied}
use Rattle.router.specs.Close.{closed_place, closing, closed}
use Rattle.theorems.specs.Alike.{written_is}
use Rattle.theorems.specs.RouterPlaceLaws.{lowest_is_free, awaits_taken, awaits_waiting}
use Rattle.theorems.specs.RouterArrivals.{Arrives}
use Rattle.theorems.specs.RouterEffects as effects
use Rattle.theorems.specs.RouterEffects.{Call, Passes, Changes, Effect, effect}
use Rattle.link.specs.World.{Clock, Serial, Member, to_node, Event, beacon, close, to_requested, to_closed, to_replied, wrote_router}
use Rattle.link.specs.Can.{Plain, nothing, beacons, tells, Lessened, Took, repeats, renews, places, RouterCan, stays, lapses, lessens, says_again, forwards, opens}
use Rattle.link.specs.WrittenLaws.{failure_codes, terminating_codes}

-- a message to an address went out
told_node : (a : Result ⊤ Refusal) (r : Router) (to m out : List ℕ) → wrote_router (sends a r (Address to) m out) ≡ to_node to m ∷ []
told_node a r to m out = rw (written_is m out)

-- a place whose session ended is `Lessened`
less_open : (p : Place) → Lessened p (closed_place p)
unfolding closed_place
less_open p = record { taken = refl; address = refl; last = refl; attempt = λ _. refl; session = never }

-- so is one whose attempt ended
less_waiting : (p : Place) → Lessened p (settled p p.session)
less_waiting p = record { taken = refl; address = refl; last = refl; attempt = never; session = λ _. refl }

module _ {count : ℕ} (address : Member count → List ℕ) (r : Router) (now : Clock) where
  -- what the event can do to the router, where the router's step is s
  abbrev Can : Event count → Step → Type 0
  Can e s = RouterCan address r s.outcome.state e (wrote_router s)

  -- the router with what has lapsed gone
  abbrev q : Router
  q = lapsed_at now.ticks r

  -- a failure went out
  fails : (a : Result ⊤ Refusal) (p : Router) (to : List ℕ) (stamp reason : ℕ) (out : List ℕ) → Plain r (wrote_router (sends a p (Address to) (failure_bytes stamp reason) out))
  fails a p to stamp reason out = tells to (failure_bytes stamp reason) (inl (failure_codes stamp reason)) (told_node a p to (failure_bytes stamp reason) out)

  -- what a call c can do as the event e, where the event allows what a beacon, a request that goes to the server and an accept come to
  module _ (e : Event count) (c : Call)
      (beaconing : (serial : ℕ) (out : List ℕ) → c ≡ effects.beacon now.ticks serial out → r.clock ≤ now.ticks
      → Can e (sends done q Everyone (beacon_of r.settings now.ticks serial) out))
      (forwarding : (from m out : List ℕ) (v : RequestValues) (j : ℕ) (r' : Router) → c ≡ effects.request_from now.ticks from m out
      → Arrives r now.ticks m out v → Took q r' from v j → Can e (sends done r' Server (asked_of r.settings j from m v) out))
      (opening : (m out : List ℕ) (v : AcceptValues) (j : ℕ) → c ≡ effects.reply now.ticks m out → r.clock ≤ now.ticks
      → accept_told m (read_accept m) ≡ Ok v → awaits q j ≡ true → v.check ≡ (place_of j q).attempt.check
      → let p = place_of j q in let session = opened_by q p now.ticks v in
      Can e (sends done (with_place j (settled p session) q) (Address p.address) (success_for r.settings p.address session) out)) where
    -- where no place changes
    passed : (s : Step) → r.clock ≤ now.ticks → Passes r now.ticks c s → Can e s
    unfolding lapsed_at
    passed s l (effects.beacons serial out is done_so) = rw done_so (beaconing serial out is l)
    passed s l (effects.asks_again from m out v j is a w done_so) = rw done_so (forwarding from m out v j q is a (repeats refl))
    passed s l (effects.says_again from m out v j is opened done_so) =
        rw done_so
        (says_again now j l
        (record {
          taken = opened.place.taken;
          live = opened.live;
          sends = rw opened.place.its (told_node done q from (success_for r.settings from (place_of j q).session) out);
        })
        refl)

    -- where one does
    changed : (s : Step) → r.clock ≤ now.ticks → Changes r now.ticks c s → Can e s
    changed s l (effects.renews from m out v j is a f above done_so) =
        rw done_so (forwarding from m out v j (with_place j (attempted v (place_of j q)) q) is a (renews f above refl))
    changed s l (effects.takes from m out v is a none room done_so) =
        let j = lowest_free q.places in
        rw done_so
        (forwarding from m out v j (with_place j (placed from v) q) is a
        (places room (lowest_is_free q) none refl))
    changed s l (effects.opens m out v j is reads its awaited check done_so) = rw done_so (opening m out v j is l reads awaited check)
    changed s l (effects.rejects m out v j is reads code awaited done_so) =
        let left = settled (place_of j q) (place_of j q).session in
        rw done_so
        (lessens now j left l (awaits_taken q j awaited) (less_waiting (place_of j q)) refl
        (fails done (with_place j left q) (place_of j q).address (place_of j q).attempt.stamp reject_reason out))
    changed s l (effects.closes to out j is f live done_so) =
        let session = (place_of j q).session in
        let m = terminating_of session.key r.settings.address to session.stamp in
        rw done_so
        (lessens now j (closed_place (place_of j q)) l f.taken (less_open (place_of j q)) refl
        (tells to m (inr (terminating_codes _ _ _ _)) (told_node done (with_place j (closed_place (place_of j q)) q) to m out)))
    changed s l (effects.is_closed from m v j is reads f live stamp done_so) =
        rw done_so (lessens now j (closed_place (place_of j q)) l f.taken (less_open (place_of j q)) refl (nothing refl))

    -- in every case
    does : (s : Step) → Effect c r s now.ticks → Can e s
    does s (effects.nothing why n x done_so) = rw done_so (stays refl refl)
    does s (effects.lapses l why n x done_so) = rw done_so (lapses now l refl (nothing refl))
    does s (effects.fails l from m out v why reason is reads n x done_so) =
        rw done_so (lapses now l refl (fails (Err why) q from v.stamp reason out))
    does s (effects.passes l x) = passed s l x
    does s (effects.changes l x) = changed s l x

  -- EACH CALL
  -- what the beacon can do at the router
  pub router_beaconed : (serial : Serial) (out : List ℕ) → Can (beacon now serial out) (beaconed r now.ticks serial.number out)
  router_beaconed serial out =
      does (beacon now serial out) (effects.beacon now.ticks serial.number out)
      (λ serial' out' is l.
      let same : serial' ≡ serial.number = cc in
      rw same (lapses now l refl (beacons now serial (rw (written_is (beacon_of r.settings now.ticks serial.number) out')))))
      (λ from m out v j r' is. never cc)
      (λ m out v j is. never cc)
      (beaconed r now.ticks serial.number out) (effect r (effects.beacon now.ticks serial.number out))

  -- what a request can do
  pub router_requested : (i : Member count) (m out : List ℕ) → Can (to_requested i now m out) (requested r now.ticks (address i) m out)
  router_requested i m out =
      does (to_requested i now m out) (effects.request_from now.ticks (address i) m out)
      (λ serial out is. never cc)
      (λ from' m' out' v j r' is a took.
      let same_from : from' ≡ address i = cc in
      let same_m : m' ≡ m = cc in
      forwards (record {
        i = i;
        now = now;
        m = m;
        out = out;
        v = v;
        j = j;
        is = refl;
        reads = rw same_m at a.reads;
        clock = a.clock;
        not_ahead = a.not_ahead;
        not_old = a.not_old;
        took = rw same_from at took;
        sends = rw (same_from, same_m, written_is (asked_of r.settings j (address i) m v) out');
      }))
      (λ m out v j is. never cc)
      (requested r now.ticks (address i) m out) (effect r (effects.request_from now.ticks (address i) m out))

  -- what a reply of the server can do
  pub router_replied : (m out : List ℕ) → Can (to_replied now m out) (replied r now.ticks m out)
  unfolding lapsed_at
  router_replied m out =
      does (to_replied now m out) (effects.reply now.ticks m out)
      (λ serial out is. never cc)
      (λ from m out v j r' is. never cc)
      (λ m' out' v j is l reads awaited check.
      let same_m : m' ≡ m = cc in
      let p = place_of j q in
      let session = opened_by q (place_of j q) now.ticks v in
      opens (record {
        now = now;
        m = m;
        out = out;
        v = v;
        j = j;
        is = refl;
        reads = rw same_m at reads;
        clock = l;
        granted = record {
          taken = awaits_taken q j awaited;
          waiting = awaits_waiting q j awaited;
          check = check;
          is = refl;
          sends = told_node done (with_place j (settled p session) q) p.address (success_for r.settings p.address session) out';
        };
      }))
      (replied r now.ticks m out) (effect r (effects.reply now.ticks m out))

  -- a call that neither sends a beacon nor takes a request or a reply
  module _ (e : Event count) (c : Call) (no_beacon : (serial : ℕ) (out : List ℕ) → c ≡ effects.beacon now.ticks serial out → ⊥)
      (no_request : (from m out : List ℕ) → c ≡ effects.request_from now.ticks from m out → ⊥)
      (no_reply : (m out : List ℕ) → c ≡ effects.reply now.ticks m out → ⊥) where
    -- it can do no more than end something
    does_else : (s : Step) → Effect c r s now.ticks → Can e s
    does_else =
        does e c (λ serial out is. absurd (no_beacon serial out is)) (λ from m out v j r' is. absurd (no_request from m out is))
        (λ m out v j is. absurd (no_reply m out is))

  -- what a terminating message can do that is written
  pub router_closing : (to out : List ℕ) → Can (close now to out) (closing r now.ticks to out)
  router_closing to out =
      does_else (close now to out) (effects.terminate now.ticks to out) (λ serial out is. never cc)
      (λ from m out is. never cc) (λ m out is. never cc)
      (closing r now.ticks to out) (effect r (effects.terminate now.ticks to out))

  -- what one can do that arrives
  pub router_closed : (i : Member count) (m : List ℕ) → Can (to_closed i now m) (closed r now.ticks (address i) m)
  router_closed i m =
      does_else (to_closed i now m) (effects.terminating now.ticks (address i) m) (λ serial out is. never cc)
      (λ from m out is. never cc) (λ m out is. never cc)
      (closed r now.ticks (address i) m) (effect r (effects.terminating now.ticks (address i) m))
