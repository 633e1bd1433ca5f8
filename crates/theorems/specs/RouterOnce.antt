-- A stamp that a router took from an address is never taken from it again, however long the run: no request opens twice.
-- Why: the address keeps a place whose last stamp is not below that stamp, or the stamp is more than W old (`Kept`); and 12 and the place's lapse have one W.
use Rattle.std.specs.Prelude.{ℕ, ◌-◌, ◌<◌, ◌≤◌, true, ◌≡◌, ◌⊎◌, List, [], ◌∷◌, Ok}
use Rattle.std.proofs.Math.Path.{refl}
use Rattle.std.proofs.Common.{sym, ap, subst, ◌∙◌, inl, inr, ⊎_elim, arith}
use Rattle.std.proofs.Math.ListN.{length}
use Rattle.refusal.specs.Step.{done}
use Rattle.octets.proofs.ChoiceLaws.{never, not_both}
use Rattle.refusal.specs.declared.To.TheVariants.{Server}
use Rattle.misp.specs.Request.{RequestValues, read_request, request_told}
use Rattle.places.specs.declared.place.Place.{Place}
use Rattle.places.specs.declared.state.Settings.{Settings}
use Rattle.places.specs.declared.state.Router.{Router}
use Rattle.places.specs.State.{lapsed_at, lowest_free}
use Rattle.places.proofs.LapseLaws.{lapsed_settings, lapsed_clock}
use Rattle.turn.specs.Outcome.{Step, place_of, with_place}
use Rattle.entering.specs.Request.{attempted, placed, requested}
use Rattle.settling.specs.Reply.{settled, opened_by}
use Rattle.router.specs.Close.{closed_place}
use Rattle.message.proofs.ToldLaws.{got_same}
use Rattle.theorems.specs.RouterPlaceLaws.{taken_within, lowest_is_free, awaits_taken}
use Rattle.theorems.specs.RouterArrivals.{Arrives}
use Rattle.theorems.specs.RouterKept.{Stands, Kept, lapsed_kept, with_kept}
use Rattle.theorems.specs.RouterEffects.{Call, request_from, clock_of, step_of, after, run, Changes, renews, takes, opens, rejects, closes, is_closed, Effect, nothing, lapses, fails, passes, changes, passes_done, effect}
use Rattle.theorems.specs.RouterReached.{RouterHolds, lapsed_holds, after_holds, run_holds}
use Rattle.theorems.specs.RouterDone.{forwarded}

module _ (from : List ℕ) (stamp : ℕ) where
  module _ (s : Settings) (c : Call) (r : Router) (h : RouterHolds s r) (x : Step) (k : Kept r from stamp) where
    module _ (l : r.clock ≤ clock_of c) where
      -- the router with what has lapsed gone
      abbrev q : Router
      q = lapsed_at (clock_of c) r

      -- a stamp that is kept is kept after lapsing
      lapsed : Kept q from stamp
      lapsed = lapsed_kept from stamp r (clock_of c) l k

      -- a taken place keeps its address, and its last stamp does not fall
      stands : (i : ℕ) (p : Place) → (place_of i q).taken ≡ true → p.taken ≡ true → p.address ≡ (place_of i q).address → (place_of i q).last ≤ p.last
          → Kept (with_place i p q) from stamp
      stands i p t u same up = with_kept from stamp q i p (taken_within q i t) u (λ _. (same, up)) lapsed

      -- it is kept where the call changes a place
      changed_kept : Changes r (clock_of c) c x → Kept x.outcome.state from stamp
      unfolding attempted placed opened_by closed_place
      changed_kept (renews a m out v i e arrives f above is) = rw is (stands i (attempted v (place_of i q)) f.taken refl refl (omega arith))
      changed_kept (takes a m out v e arrives none room is) =
          let within : lowest_free q.places < length q.places = rw (lapsed_holds s r h (clock_of c) l).size room in
          rw is (with_kept from stamp q (lowest_free q.places) (placed a v) within refl (λ u. not_both u (lowest_is_free q)) lapsed)
      changed_kept (opens m out v i e t its w check is) =
          rw is (stands i (settled (place_of i q) (opened_by q (place_of i q) (clock_of c) v)) (awaits_taken q i w) refl refl (omega arith))
      changed_kept (rejects m out v i e t code w is) = rw is (stands i (settled (place_of i q) (place_of i q).session) (awaits_taken q i w) refl refl (omega arith))
      changed_kept (closes to out i e f live is) = rw is (stands i (closed_place (place_of i q)) f.taken refl refl (omega arith))
      changed_kept (is_closed a m v i e t f live same is) = rw is (stands i (closed_place (place_of i q)) f.taken refl refl (omega arith))

    -- and whatever else the call does
    effect_kept : Effect c r x (clock_of c) → Kept x.outcome.state from stamp
    effect_kept (nothing why n reason is) = rw is k
    effect_kept (lapses l why n reason is) = rw is (lapsed l)
    effect_kept (fails l a m out v why reason e reads n told is) = rw is (lapsed l)
    effect_kept (passes l y) = rw (passes_done r (clock_of c) c x y).1 (lapsed l)
    effect_kept (changes l y) = changed_kept l y

  -- ONCE KEPT, KEPT: a stamp that is kept is kept after any calls
  run_kept : (s : Settings) (r : Router) → RouterHolds s r → Kept r from stamp → (cs : List Call) → Kept (run r cs) from stamp
  run_kept s r h k [] = k
  run_kept s r h k (c ∷ cs) = run_kept s (after r c) (after_holds s r h c) (effect_kept s c r h (step_of r c) k (effect r c)) cs

-- a request takes nothing: the state stays, or the clock is stored and what has lapsed goes
abbrev pub NotTaken : Router → ℕ → List ℕ → List ℕ → List ℕ → Type 0
NotTaken r now from m out =
    let r' = (requested r now from m out).outcome.state in
    (r' ≡ r) ⊎ (r' ≡ lapsed_at now r)

module _ (s : Settings) (r : Router) (h : RouterHolds s r) (from : List ℕ) (stamp : ℕ) (k : Kept r from stamp) (now : ℕ) (m out : List ℕ) (v : RequestValues)
    (reads : request_told m (read_request m) ≡ Ok v) (low : v.stamp ≤ stamp) where
  -- the request's call
  abbrev c : Call
  c = request_from now from m out

  -- a request like this one that arrives in time finds the place that keeps the stamp, else its stamp were too old: what that place shuts out (`above`) is not so
  too_low : (a m' out' : List ℕ) (v' : RequestValues) → request_from now from m out ≡ request_from now a m' out' → Arrives r now m' out' v'
      → ((x : Stands (lapsed_at now r) from stamp) → a ≡ from → v'.stamp ≤ stamp → ⊥) → ⊥
  too_low a m' out' v' e arrives above =
      let same : m' ≡ m = cc in
      let address : a ≡ from = cc in
      let stamps : v'.stamp ≡ v.stamp = ap (λ (x : RequestValues). x.stamp) (got_same (rw same at arrives.reads) reads) in
      ⊎_elim
      (λ x. above x address (omega arith))
      (λ old.
      let young : now - v'.stamp ≤ r.settings.window = arrives.not_old in
      let o : r.settings.window < now - stamp = rw (lapsed_settings now r, lapsed_clock now r) at old in
      omega arith)
      (lapsed_kept from stamp r now arrives.clock k)

  -- the change would need a stamp that is above the last, and not too old
  no_change : (x : Step) → Changes r now c x → ⊥
  no_change x (renews a m' out' v' i e arrives f above is) =
      too_low a m' out' v' e arrives λ y address up.
      let only : y.place ≡ i = (lapsed_holds s r h now arrives.clock).apart y.place i y.found.taken f.taken (y.found.its ∙ sym address ∙ sym f.its) in
      let last : stamp ≤ (place_of i (lapsed_at now r)).last = rw only at y.last in
      omega arith
  no_change x (takes a m' out' v' e arrives none room is) =
      too_low a m' out' v' e arrives λ y address up. none y.place (record { taken = y.found.taken; its = y.found.its ∙ sym address })
  no_change x (opens m' out' v' i e t its w check is) = never cc
  no_change x (rejects m' out' v' i e t code w is) = never cc
  no_change x (closes to out' i e f live is) = never cc
  no_change x (is_closed a m' v' i e t f live same is) = never cc

  -- a request of the address with a stamp that is kept, or a lower one, takes nothing
  not_taken : NotTaken r now from m out
  not_taken = go (requested r now from m out) (effect r c)
    where
      go : (x : Step) → Effect c r x now → (x.outcome.state ≡ r) ⊎ (x.outcome.state ≡ lapsed_at now r)
      go x (nothing why n reason is) = inl (rw is refl)
      go x (lapses l why n reason is) = inr (rw is refl)
      go x (fails l a m' out' v' why reason e t n told is) = inr (rw is refl)
      go x (passes l y) = inr (passes_done r now c x y).1
      go x (changes l y) = absurd (no_change x y)

-- a request that went on to the server is kept
forwarded_kept : (s : Settings) (r : Router) → RouterHolds s r → (now : ℕ) (from m out : List ℕ) (v : RequestValues) → request_told m (read_request m) ≡ Ok v
    → (requested r now from m out).outcome.answer ≡ done → (requested r now from m out).outcome.to ≡ Server
    → Kept (requested r now from m out).outcome.state from v.stamp
forwarded_kept s r h now from m out v reads d t =
    let f = forwarded r h.size now from m out v reads d t in
    let h₁ = subst (λ (x : Step). RouterHolds s x.outcome.state) f.wrote (after_holds s r h (request_from now from m out)) in
    let w = f.waits in
    let last : v.stamp ≡ (place_of f.place f.state).last = w.stamp ∙ (h₁.taken f.place w.place.taken).attempt w.waiting in
    subst (λ (x : Step). Kept x.outcome.state from v.stamp) (sym f.wrote)
    (inl (record { place = f.place; found = w.place; last = omega arith }))

-- ONCE. A request with the stamp of v went on to the server, from a state that was reached; then any calls; then a request of the same address with a stamp not
-- above it takes nothing. (It gets what RouterRepeats says, or 12, or another refusal.)
pub once : (s : Settings) (r : Router) → RouterHolds s r → (now : ℕ) (from m out : List ℕ) (v : RequestValues) → request_told m (read_request m) ≡ Ok v →
    let first = requested r now from m out in
    first.outcome.answer ≡ done → first.outcome.to ≡ Server →
    (cs : List Call) (now' : ℕ) (m' out' : List ℕ) (v' : RequestValues) → request_told m' (read_request m') ≡ Ok v' → v'.stamp ≤ v.stamp
    → NotTaken (run first.outcome.state cs) now' from m' out'
once s r h now from m out v reads d t cs now' m' out' v' reads' low =
    let r₁ = (requested r now from m out).outcome.state in
    let h₁ = after_holds s r h (request_from now from m out) in
    let k = run_kept from v.stamp s r₁ h₁ (forwarded_kept s r h now from m out v reads d t) cs in
    not_taken s (run r₁ cs) (run_holds s r₁ h₁ cs) from v.stamp k now' m' out' v' reads' low
