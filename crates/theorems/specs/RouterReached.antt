-- What holds in every state that a router reaches from setup, by any calls with any arguments, one after the other: the settings are those of setup, no
-- two taken places have one address, a free place holds nothing, no stamp lies ahead of the clock, an attempt has its place's last stamp and is at most W
-- old, and a session has no later stamp than the last, one below that of an attempt beside it, and has not lapsed.
use Rattle.std.specs.Prelude.{ℕ, ◌-◌, ◌*◌, ◌<◌, ◌≤◌, false, ◌≡◌, ◌≢◌, List, [], ◌∷◌, length, Result, Ok}
use Rattle.std.proofs.Math.Bool.{true}
use Rattle.std.proofs.Math.Path.{refl}
use Rattle.std.proofs.Common.{sym, ap, subst, ◌∙◌, ⊎_elim, arith}
use Rattle.std.proofs.Math.Decide.{ℕ_discrete}
use Rattle.octets.proofs.ChoiceLaws.{never, not_both, pick_all}
use Rattle.refusal.specs.declared.Refusal.{Refusal}
use Rattle.refusal.proofs.StepLaws.{one_value}
use Rattle.position.specs.declared.Position.{Position}
use Rattle.misp.specs.Request.{RequestValues}
use Rattle.misauth.specs.Accept.{AcceptValues}
use Rattle.places.specs.declared.place.Place.{Place}
use Rattle.places.specs.declared.state.Settings.{Settings}
use Rattle.places.specs.declared.state.Router.{Router}
use Rattle.places.specs.Place.{fresh_place}
use Rattle.places.specs.State.{lapsed_at, lowest_free, fresh_router, settings_of, settings_in_range, set_up_router}
use Rattle.places.proofs.LapseLaws.{lapsed_settings, lapsed_clock, lapsed_length}
use Rattle.places.proofs.SetUpLaws.{fresh_length, fresh_place_law}
use Rattle.turn.specs.Outcome.{Step, place_of, with_place}
use Rattle.entering.specs.Request.{attempted, placed}
use Rattle.settling.specs.Reply.{settled, opened_by, awaits}
use Rattle.router.specs.Close.{closed_place}
use Rattle.theorems.specs.RouterPlaceLaws.{Left, lapsed_left, lapsed_free, lapsed_apart, taken_within, awaits_taken, awaits_waiting, Apart, apart_alone, with_settings, with_clock, with_length, with_here, with_other, with_apart, Found}
use Rattle.theorems.specs.RouterEffects.{Call, clock_of, step_of, after, run, Changes, renews, takes, opens, rejects, closes, is_closed, Effect, nothing, lapses, fails, passes, changes, passes_done, effect}

-- What holds of a taken place p, by the clock and the settings s.
pub record PlaceHolds (clock : ℕ) (s : Settings) (p : Place) : Type 0 where
  -- no stamp that was taken lies ahead of the clock
  pub last : p.last ≤ clock
  -- an attempt's stamp is the last stamp, and while it waits that is at most W old
  pub attempt : p.attempt.waiting ≡ true → p.attempt.stamp ≡ p.last
  pub waits : p.attempt.waiting ≡ true → clock - p.last ≤ s.window
  -- a session's stamp is at most the last stamp; it began by the clock, and has not lapsed
  pub session : p.session.live ≡ true → p.session.stamp ≤ p.last
  pub since : p.session.live ≡ true → p.session.since ≤ clock
  pub lasts : p.session.live ≡ true → clock - p.session.since ≤ s.lifetime * s.unit
  -- where there are both, the session's stamp is below the attempt's
  pub below : p.attempt.waiting ≡ true → p.session.live ≡ true → p.session.stamp < p.attempt.stamp

-- What holds of a router, s being the settings that setup made.
pub record RouterHolds (s : Settings) (r : Router) : Type 0 where
  -- settings never change
  pub settings : r.settings ≡ s
  pub size : length r.places ≡ 64
  -- addresses of taken places are distinct
  pub apart : Apart r
  pub taken : (i : ℕ) → (place_of i r).taken ≡ true → PlaceHolds r.clock s (place_of i r)
  -- a free place holds nothing
  pub free : (i : ℕ) → i < 64 → (place_of i r).taken ≡ false → place_of i r ≡ fresh_place

module _ (s : Settings) where
  -- SETUP: it holds of a router in which no place is taken
  fresh_holds : RouterHolds s (fresh_router s)
  unfolding fresh_router place_of
  fresh_holds =
      record {
        settings = refl;
        size = fresh_length s;
        apart = λ h i t. none h t;
        taken = λ i t. none i t;
        free = λ i l _. fresh_place_law s i l;
      }
    where
      none : {A : Type 0} (i : ℕ) → (place_of i (fresh_router s)).taken ≡ true → A
      none i t =
          let l : i < 64 = rw (fresh_length s) at (taken_within (fresh_router s) i t) in
          not_both t (ap (λ (p : Place). p.taken) (fresh_place_law s i l))

  -- LAPSING: what holds of a place holds of what it leaves of it
  left_holds : (clock now : ℕ) → clock ≤ now → (p p' : Place) → Left s now p p' → PlaceHolds clock s p → PlaceHolds now s p'
  left_holds clock now c p p' l h =
      let stamp : p.last ≤ clock = h.last in
      record {
        last = rw l.last (omega arith);
        attempt = λ e. (let same = l.attempt e in rw (same, l.last) (h.attempt (rw same at e)));
        waits = λ e. (let same = l.attempt e in rw (l.last, ← h.attempt (rw same at e)) (l.waits e));
        session = λ e. (let same = l.session e in rw (same, l.last) (h.session (rw same at e)));
        since = λ e. (let same = l.session e in let x : p.session.since ≤ clock = h.since (rw same at e) in rw same (omega arith));
        lasts = λ e. rw (l.session e) (l.lasts e);
        below = λ a e. (let same = l.attempt a in let also = l.session e in rw (same, also) (h.below (rw same at a) (rw also at e)));
      }

  -- what holds of a router holds of it after lapsing
  pub lapsed_holds : (r : Router) → RouterHolds s r → (now : ℕ) → r.clock ≤ now → RouterHolds s (lapsed_at now r)
  lapsed_holds r h now c =
      record {
        settings = lapsed_settings now r ∙ h.settings;
        size = lapsed_length now r ∙ h.size;
        apart = lapsed_apart now r h.apart;
        taken = λ i t.
            let p' = place_of i (lapsed_at now r) in
            let x = subst (λ (y : Settings). Left y now (place_of i r) p') h.settings (lapsed_left now r i t) in
            subst (λ (k : ℕ). PlaceHolds k s p') (sym (lapsed_clock now r)) (left_holds r.clock now c (place_of i r) p' x (h.taken i x.was));
        free = λ i l f. ⊎_elim (λ g. g.1 ∙ h.free i l g.0) (λ e. e) (lapsed_free now r i f);
      }

  -- ONE PLACE CHANGES, and is taken after: no other has its address
  module _ (q : Router) (h : RouterHolds s q) (i : ℕ) (x : Place) (within : i < 64) (t : x.taken ≡ true)
      (alone : (j : ℕ) → j ≢ i → (place_of j q).taken ≡ true → (place_of j q).address ≡ x.address → ⊥) (f : PlaceHolds q.clock s x) where
    -- the place is the new one
    here : place_of i (with_place i x q) ≡ x
    here = with_here i x q (rw h.size within)

    -- each taken place is as `PlaceHolds` says
    with_taken : (j : ℕ) → (place_of j (with_place i x q)).taken ≡ true → PlaceHolds q.clock s (place_of j (with_place i x q))
    with_taken j u = go (ℕ_discrete j i)
      where
        go : Dec (j ≡ i) → PlaceHolds q.clock s (place_of j (with_place i x q))
        go (yes e) = rw (e, here) f
        go (no n) = let o = with_other i x q j n in rw o (h.taken j (rw o at u))

    -- and each free one is fresh
    with_free : (j : ℕ) → j < 64 → (place_of j (with_place i x q)).taken ≡ false → place_of j (with_place i x q) ≡ fresh_place
    with_free j l u = go (ℕ_discrete j i)
      where
        go : Dec (j ≡ i) → place_of j (with_place i x q) ≡ fresh_place
        go (yes e) = not_both t (rw (e, here) at u)
        go (no n) = let o = with_other i x q j n in o ∙ h.free j l (rw o at u)

    -- so it holds of the router
    with_holds : RouterHolds s (with_place i x q)
    with_holds =
        record {
          settings = with_settings i x q ∙ h.settings;
          size = with_length i x q ∙ h.size;
          apart = with_apart i x q (rw h.size within) h.apart alone;
          taken = λ j u. subst (λ (k : ℕ). PlaceHolds k s (place_of j (with_place i x q))) (sym (with_clock i x q)) (with_taken j u);
          free = with_free;
        }

  -- EACH WAY that a place changes keeps what holds
  module _ (q : Router) (h : RouterHolds s q) (now : ℕ) (clock : q.clock ≡ now) where
    -- a place that was taken, with its address kept
    keeps : (i : ℕ) (x : Place) → (place_of i q).taken ≡ true → x.taken ≡ true → x.address ≡ (place_of i q).address
        → (PlaceHolds q.clock s (place_of i q) → PlaceHolds q.clock s x) → RouterHolds s (with_place i x q)
    keeps i x t u a f =
        with_holds q h i x (rw h.size at (taken_within q i t)) u
        (apart_alone q h.apart i t x a) (f (h.taken i t))

    -- a request came into its node's place
    renewed_holds : (i : ℕ) (from : List ℕ) (v : RequestValues) → v.stamp ≤ now → now - v.stamp ≤ s.window → Found q from i → (place_of i q).last < v.stamp
        → RouterHolds s (with_place i (attempted v (place_of i q)) q)
    unfolding attempted
    renewed_holds i from v ahead young p l =
        keeps i _ p.taken refl refl λ x.
        record {
          last = rw clock ahead;
          attempt = λ _. refl;
          waits = λ _. rw clock young;
          session = λ e. (let k : (place_of i q).session.stamp ≤ (place_of i q).last = x.session e in omega arith);
          since = x.since;
          lasts = x.lasts;
          below = λ _ e. (let k : (place_of i q).session.stamp ≤ (place_of i q).last = x.session e in omega arith);
        }

    -- a request took the lowest free place
    placed_holds : (from : List ℕ) (v : RequestValues) → v.stamp ≤ now → now - v.stamp ≤ s.window → ((i : ℕ) → Found q from i → ⊥)
        → lowest_free q.places < 64 → RouterHolds s (with_place (lowest_free q.places) (placed from v) q)
    unfolding placed
    placed_holds from v ahead young none l =
        with_holds q h (lowest_free q.places) _ l refl (λ j n t e. none j (record { taken = t; its = e }))
        (record {
          last = rw clock ahead;
          attempt = λ _. refl;
          waits = λ _. rw clock young;
          session = never;
          since = never;
          lasts = never;
          below = λ _. never;
        })

    -- an accept opened the session
    opened_holds : (i : ℕ) (v : AcceptValues) → awaits q i ≡ true → RouterHolds s (with_place i (settled (place_of i q) (opened_by q (place_of i q) now v)) q)
    unfolding opened_by
    opened_holds i v a =
        keeps i _ (awaits_taken q i a) refl refl λ x.
        record {
          last = x.last;
          attempt = never;
          waits = never;
          session = λ _. (let k : (place_of i q).attempt.stamp ≡ (place_of i q).last = x.attempt (awaits_waiting q i a) in omega arith);
          since = λ _. rw clock (omega arith);
          lasts = λ _. rw clock (omega arith);
          below = never;
        }

    -- a reject ended the attempt
    rejected_holds : (i : ℕ) → awaits q i ≡ true → RouterHolds s (with_place i (settled (place_of i q) (place_of i q).session) q)
    rejected_holds i a =
        keeps i _ (awaits_taken q i a) refl refl λ x.
        record { last = x.last; attempt = never; waits = never; session = x.session; since = x.since; lasts = x.lasts; below = never }

    -- a session was closed
    closed_holds : (i : ℕ) → (place_of i q).taken ≡ true → RouterHolds s (with_place i (closed_place (place_of i q)) q)
    unfolding closed_place
    closed_holds i t =
        keeps i _ t refl refl λ x.
        record { last = x.last; attempt = x.attempt; waits = x.waits; session = never; since = never; lasts = never; below = λ _. never }

  -- ONE CALL, and many
  module _ (c : Call) (r : Router) (h : RouterHolds s r) (x : Step) where
    module _ (l : r.clock ≤ clock_of c) where
      -- the call's clock
      abbrev now : ℕ
      now = clock_of c

      -- it holds where what has lapsed is gone
      lapsed : RouterHolds s (lapsed_at now r)
      lapsed = lapsed_holds r h now l

      -- the window is that of setup
      young : (stamp : ℕ) → now - stamp ≤ r.settings.window → now - stamp ≤ s.window
      young stamp = subst (λ (y : Settings). now - stamp ≤ r.settings.window → now - stamp ≤ y.window) h.settings (λ old. old)

      -- a call that changes a place
      changed_holds : Changes r now c x → RouterHolds s x.outcome.state
      changed_holds (renews from m out v i e a f above is) =
          rw is (renewed_holds (lapsed_at now r) lapsed now (lapsed_clock now r) i from v a.not_ahead (young v.stamp a.not_old) f above)
      changed_holds (takes from m out v e a none room is) =
          rw is (placed_holds (lapsed_at now r) lapsed now (lapsed_clock now r) from v a.not_ahead (young v.stamp a.not_old) none room)
      changed_holds (opens m out v i e t its a check is) = rw is (opened_holds (lapsed_at now r) lapsed now (lapsed_clock now r) i v a)
      changed_holds (rejects m out v i e t code a is) = rw is (rejected_holds (lapsed_at now r) lapsed now (lapsed_clock now r) i a)
      changed_holds (closes to out i e f live is) = rw is (closed_holds (lapsed_at now r) lapsed now (lapsed_clock now r) i f.taken)
      changed_holds (is_closed from m v i e t f live stamp is) = rw is (closed_holds (lapsed_at now r) lapsed now (lapsed_clock now r) i f.taken)

    -- any call
    effect_holds : Effect c r x (clock_of c) → RouterHolds s x.outcome.state
    effect_holds (nothing why n reason is) = rw is h
    effect_holds (lapses l why n reason is) = rw is (lapsed l)
    effect_holds (fails l from m out v why reason e reads n told is) = rw is (lapsed l)
    effect_holds (passes l y) = rw (passes_done r (clock_of c) c x y).1 (lapsed l)
    effect_holds (changes l y) = changed_holds l y

  -- what holds before a call holds after it
  pub after_holds : (r : Router) → RouterHolds s r → (c : Call) → RouterHolds s (after r c)
  after_holds r h c = effect_holds c r h (step_of r c) (effect r c)

  -- and after any calls
  pub run_holds : (r : Router) → RouterHolds s r → (cs : List Call) → RouterHolds s (run r cs)
  run_holds r h [] = h
  run_holds r h (c ∷ cs) = run_holds (after r c) (after_holds r h c) cs

-- EVERY STATE REACHED: of a fresh router with any settings, in their ranges or not, after any calls
pub reached_fresh : (s : Settings) (cs : List Call) → RouterHolds s (run (fresh_router s) cs)
reached_fresh s cs = run_holds s (fresh_router s) (fresh_holds s) cs

-- .. so of a router that setup made of any arguments, after any calls
pub reached : (w u l network : ℕ) (address ipv4 secret : List ℕ) (position : Position) (interval : ℕ) (groups : List ℕ) (cs : List Call)
    → (r : Router) → set_up_router w u l network address ipv4 secret position interval groups ≡ Ok r → RouterHolds r.settings (run r cs)
unfolding set_up_router fresh_router
reached w u l network address ipv4 secret position interval groups cs r =
    pick_all (λ (x : Result Router Refusal). x ≡ Ok r → RouterHolds r.settings (run r cs)) (settings_in_range w u l network secret position interval groups) _ _
    (λ _ e.
    let s = settings_of w u l network address ipv4 secret position interval groups in
    subst (λ (x : Router). RouterHolds x.settings (run x cs)) (one_value e) (reached_fresh s cs))
    (λ _ e. never cc)
