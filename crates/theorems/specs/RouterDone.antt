-- What a request that is done and goes to the server left and wrote, and what an accept that is done did.
use Rattle.std.specs.Prelude.{ℕ, ◌<◌, true, ◌≡◌, List, replicate, slice_index, Ok}
use Rattle.std.proofs.Math.Path.{refl}
use Rattle.std.proofs.Common.{◌∙◌, eq-eqb}
use Rattle.std.proofs.Math.ListN.{length}
use Rattle.refusal.specs.Step.{done, sends}
use Rattle.octets.proofs.ChoiceLaws.{never, not_both}
use Rattle.refusal.specs.declared.To.TheVariants.{Server, Address}
use Rattle.misp.specs.Request.{RequestValues, read_request, request_told}
use Rattle.misauth.specs.Accept.{AcceptValues}
use Rattle.places.specs.declared.place.Session.{Session}
use Rattle.places.specs.declared.place.Place.{Place}
use Rattle.places.specs.declared.state.Router.{Router}
use Rattle.places.specs.State.{lapsed_at, lowest_free}
use Rattle.places.proofs.LapseLaws.{lapsed_settings, lapsed_clock, lapsed_length}
use Rattle.turn.specs.Outcome.{Step, place_of, with_place}
use Rattle.turn.specs.Writes.{asked_of, success_for}
use Rattle.entering.specs.Request.{attempted, placed, requested}
use Rattle.settling.specs.Reply.{settled, opened_by, awaits, replied}
use Rattle.message.proofs.ToldLaws.{got_same}
use Rattle.theorems.specs.RefusedLaws.{not_done}
use Rattle.theorems.specs.RouterPlaceLaws.{taken_within, with_settings, with_clock, with_here, Found}
use Rattle.theorems.specs.RouterArrivals.{Arrives, Waits}
use Rattle.theorems.specs.RouterEffects.{request_from, reply, Passes, beacons, asks_again, says_again, Changes, renews, takes, opens, rejects, closes, is_closed, Effect, nothing, lapses, fails, passes, changes, effect}

-- a request that is done and goes to the server: what went out, and that its place waits on it
pub record Forwarded (r : Router) (now : ℕ) (from m out : List ℕ) (v : RequestValues) (s : Step) : Type 0 where
  pub arrives : Arrives r now m out v
  pub place : ℕ
  pub state : Router
  pub wrote : s ≡ sends done state Server (asked_of r.settings place from m v) out
  pub waits : Waits state from v place
  pub settings : state.settings ≡ r.settings
  pub clock : state.clock ≡ now

module _ (r : Router) (size : length r.places ≡ 64) (now : ℕ) (from m out : List ℕ) (v : RequestValues) where
  -- the router with what has lapsed gone
  abbrev q : Router
  q = lapsed_at now r

  -- a place that changed to one of this address, which waits with the request's stamp and check value, waits on it
  placed_waits : (i : ℕ) (p : Place) → i < length q.places → p.taken ≡ true → p.address ≡ from → p.attempt.waiting ≡ true
      → v.stamp ≡ p.attempt.stamp → v.check ≡ p.attempt.check → Waits (with_place i p q) from v i
  placed_waits i p within t a w s c =
      let e = with_here i p q within in
      record { place = record { taken = rw e t; its = rw e a }; waiting = rw e w; stamp = rw e s; check = rw e c }

  -- the access request went out with that state
  forwards : Arrives r now m out v → (i : ℕ) (p : Place) → Waits (with_place i p q) from v i → (s : Step)
      → s ≡ sends done (with_place i p q) Server (asked_of r.settings i from m v) out → Forwarded r now from m out v s
  forwards a i p w s is =
      record {
        arrives = a;
        place = i;
        state = with_place i p q;
        wrote = is;
        waits = w;
        settings = with_settings i p q ∙ lapsed_settings now r;
        clock = with_clock i p q ∙ lapsed_clock now r;
      }

  -- so it does where the place of the request's node takes it
  renews_forwards : (i : ℕ) → Arrives r now m out v → Found q from i → (s : Step)
      → s ≡ sends done (with_place i (attempted v (place_of i q)) q) Server (asked_of r.settings i from m v) out
      → Forwarded r now from m out v s
  unfolding attempted
  renews_forwards i a f s is =
      forwards a i (attempted v (place_of i q)) (placed_waits i (attempted v (place_of i q)) (taken_within q i f.taken) refl f.its refl refl refl) s is

  -- and where the lowest free place does
  takes_forwards : Arrives r now m out v → lowest_free q.places < 64 → (s : Step)
      → s ≡ sends done (with_place (lowest_free q.places) (placed from v) q) Server (asked_of r.settings (lowest_free q.places) from m v) out
      → Forwarded r now from m out v s
  unfolding placed
  takes_forwards a l s is =
      let i = lowest_free q.places in
      let within : lowest_free q.places < length q.places = rw (lapsed_length now r ∙ size) l in
      forwards a i (placed from v) (placed_waits i (placed from v) within refl refl refl refl refl) s is

module _ (r : Router) (size : length r.places ≡ 64) (now : ℕ) (from m out : List ℕ) (v : RequestValues) (reads : request_told m (read_request m) ≡ Ok v) where
  -- what is said of a call and the fields that it was read as is said of this one
  as_given : (from' m' out' : List ℕ) (v' : RequestValues) (s : Step) → request_from now from m out ≡ request_from now from' m' out' → Arrives r now m' out' v'
      → Forwarded r now from' m' out' v' s → Forwarded r now from m out v s
  as_given from' m' out' v' s e a f =
      let same_from : from' ≡ from = cc in
      let same_m : m' ≡ m = cc in
      let same_out : out' ≡ out = cc in
      let same_v : v' ≡ v = got_same (rw same_m at a.reads) reads in
      rw (same_from, same_m, same_out, same_v) at f

  -- where no place changes, the request repeats the attempt that waits
  passed : (s : Step) → Passes r now (request_from now from m out) s → s.outcome.to ≡ Server → Forwarded r now from m out v s
  passed s (beacons serial out' e is) t = never cc
  passed s (asks_again from' m' out' v' i e a w is) t =
      as_given from' m' out' v' s e a
      (record { arrives = a; place = i; state = lapsed_at now r; wrote = is; waits = w; settings = lapsed_settings now r; clock = lapsed_clock now r })
  passed s (says_again from' m' out' v' i e w is) t = let to : Address from' ≡ Server = rw is at t in never cc

  -- where one changes, the request renews its node's place or takes a free one
  changed : (s : Step) → Changes r now (request_from now from m out) s → Forwarded r now from m out v s
  changed s (renews from' m' out' v' i e a f l is) = as_given from' m' out' v' s e a (renews_forwards r size now from' m' out' v' i a f s is)
  changed s (takes from' m' out' v' e a n l is) = as_given from' m' out' v' s e a (takes_forwards r size now from' m' out' v' a l s is)
  changed s (opens m' out' v' i e t k w x is) = never cc
  changed s (rejects m' out' v' i e t k w is) = never cc
  changed s (closes to out' i e f l is) = never cc
  changed s (is_closed from' m' v' i e t f l k is) = never cc

  -- a request that is done and for the server is `Forwarded`
  pub forwarded : (requested r now from m out).outcome.answer ≡ done → (requested r now from m out).outcome.to ≡ Server
      → Forwarded r now from m out v (requested r now from m out)
  forwarded = go (requested r now from m out) (effect r (request_from now from m out))
    where
      go : (s : Step) → Effect (request_from now from m out) r s now → s.outcome.answer ≡ done → s.outcome.to ≡ Server → Forwarded r now from m out v s
      go s (nothing why n x is) d t = absurd (not_done (rw is at d))
      go s (lapses l why n x is) d t = absurd (not_done (rw is at d))
      go s (fails l from' m' out' v' why reason e reads n x is) d t = absurd (not_done (rw is at d))
      go s (passes l x) d t = passed s x t
      go s (changes l x) d t = changed s x

-- the session that an accept opens at place i
abbrev pub new_session : Router → ℕ → ℕ → AcceptValues → Session
new_session r now i v = opened_by (lapsed_at now r) (place_of i (lapsed_at now r)) now v

-- a reply that is done and is an accept, for place i: what went out, and the session that it opened
pub record AcceptDone (r : Router) (now : ℕ) (out : List ℕ) (i : ℕ) (s : Step) : Type 0 where
  pub accept : AcceptValues
  pub awaited : awaits (lapsed_at now r) i ≡ true
  pub wrote : s ≡ sends done (with_place i (settled (place_of i (lapsed_at now r)) (new_session r now i accept)) (lapsed_at now r)) (Address (place_of i (lapsed_at now r)).address)
      (success_for r.settings (place_of i (lapsed_at now r)).address (new_session r now i accept)) out

module _ (r : Router) (now : ℕ) (m out : List ℕ) (two : slice_index m 0 ≡ 2) where
  -- where a place changes, a reply with an accept's Code opens the session
  grants : (s : Step) → Changes r now (reply now m out) s → AcceptDone r now out (slice_index m 1) s
  grants s (opens m' out' v i e t k w x is) =
      let same_m : m' ≡ m = cc in
      let same_out : out' ≡ out = cc in
      let its : i ≡ slice_index m 1 = rw same_m at k in
      record { accept = v; awaited = rw its at w; wrote = rw (its, same_out) at is }
  grants s (rejects m' out' v i e t k w is) = let same_m : m' ≡ m = cc in not_both (eq-eqb (slice_index m 0) 2 two) (rw same_m at k)
  grants s (renews from m' out' v i e a f l is) = never cc
  grants s (takes from m' out' v e a n l is) = never cc
  grants s (closes to out' i e f l is) = never cc
  grants s (is_closed from m' v i e t f l k is) = never cc

  -- a reply is never done without a change
  no_pass : (s : Step) → Passes r now (reply now m out) s → ⊥
  no_pass s (beacons serial out' e is) = never cc
  no_pass s (asks_again from m' out' v i e a w is) = never cc
  no_pass s (says_again from m' out' v i e w is) = never cc

  -- a reply that is done and has an accept's Code is `AcceptDone`, for the place that its Identifier says
  pub accept_done : (replied r now m out).outcome.answer ≡ done → AcceptDone r now out (slice_index m 1) (replied r now m out)
  accept_done = go (replied r now m out) (effect r (reply now m out))
    where
      go : (s : Step) → Effect (reply now m out) r s now → s.outcome.answer ≡ done → AcceptDone r now out (slice_index m 1) s
      go s (nothing why n x is) d = absurd (not_done (rw is at d))
      go s (lapses l why n x is) d = absurd (not_done (rw is at d))
      go s (fails l from m' out' v why reason e reads n x is) d = absurd (not_done (rw is at d))
      go s (passes l x) d = absurd (no_pass s x)
      go s (changes l x) d = grants s x
