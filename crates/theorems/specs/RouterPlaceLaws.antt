-- A router's places after lapsing (what is left of a place, that one which is gone was too old, that a free one stays free), after one of them changed (that
-- one is the new one, the others stay, addresses stay apart), and the place that an address has. The other files about the router cite these laws.
use Rattle.std.specs.Prelude.{ℕ, ◌-◌, ◌*◌, ◌<◌, ◌≤◌, Bool, ◌≡◌, ◌≢◌, ◌⊎◌, List, length, nat_lt, slice_index_or, Option, Some, None}
use Rattle.std.proofs.Math.Bool.{true, false}
use Rattle.std.proofs.Math.Path.{refl}
use Rattle.std.proofs.Common.{sym, ap, ◌∙◌, le-ltb, ltb-true, ltb-false}
use Rattle.std.proofs.Math.Logic.{inl, inr}
use Rattle.std.proofs.Math.Decide.{ℕ_discrete}
use Rattle.std.proofs.Math.ListN.{length-set, get_or-eq_default}
use Rattle.std.proofs.Math.Seq.{get_or-set_same, get_or-set_other, set_out}
use Rattle.octets.proofs.ChoiceLaws.{never, not_both, pick_false, both_left, both_right}
use Rattle.clock.specs.Clock.{is_stale, is_over}
use Rattle.places.specs.declared.place.Place.{Place}
use Rattle.places.specs.declared.state.Settings.{Settings}
use Rattle.places.specs.declared.state.Router.{Router}
use Rattle.places.specs.Place.{no_attempt, no_session, fresh_place, attempt_at, session_at, kept_place, place_at}
use Rattle.places.specs.State.{lapsed_at, find_of, lowest_free}
use Rattle.places.proofs.LapseLaws.{attempt_waits, session_lives, place_open, place_all, place_stays, lapsed_place}
use Rattle.places.proofs.FindLaws.{for_taken, for_address, is_for_law, find_at, find_nowhere}
use Rattle.places.proofs.WordLaws.{lowest_free_law}
use Rattle.turn.specs.Outcome.{place_of, with_place}
use Rattle.settling.specs.Reply.{awaits}
use Rattle.theorems.specs.FreshLaws.{fresh_young, stale_old, young_fresh}

-- each place lapses by itself, by the settings of its router
lapsed_at_law : (now : ℕ) (r : Router) (i : ℕ)
    → place_of i (lapsed_at now r) ≡ place_at now r.settings.window r.settings.lifetime r.settings.unit (place_of i r)
unfolding place_of
lapsed_at_law now r i = lapsed_place now r i

-- What lapsing at `now` left of a place p, where it is still taken: p'.
pub record Left (s : Settings) (now : ℕ) (p p' : Place) : Type 0 where
  pub was : p.taken ≡ true
  pub address : p'.address ≡ p.address
  pub last : p'.last ≡ p.last
  pub attempt : p'.attempt.waiting ≡ true → p'.attempt ≡ p.attempt
  pub waits : p'.attempt.waiting ≡ true → now - p.attempt.stamp ≤ s.window
  pub session : p'.session.live ≡ true → p'.session ≡ p.session
  pub lasts : p'.session.live ≡ true → now - p.session.since ≤ s.lifetime * s.unit
  -- an attempt, and a session, that has not lapsed is there still
  pub attempt_stays : now - p.attempt.stamp ≤ s.window → p'.attempt ≡ p.attempt
  pub session_stays : now - p.session.since ≤ s.lifetime * s.unit → p'.session ≡ p.session

-- a place that is taken after lapsing is what `Left` says
left_of_law : (s : Settings) (now : ℕ) (p : Place) → (place_at now s.window s.lifetime s.unit p).taken ≡ true
    → Left s now p (place_at now s.window s.lifetime s.unit p)
unfolding is_over attempt_at session_at
left_of_law s now p t =
    let x = place_stays now s.window s.lifetime s.unit p t in
    record {
      was = x.was;
      address = x.address;
      last = x.last;
      attempt = λ e. x.attempt ∙ (attempt_waits now s.window p.attempt (rw x.attempt at e)).0;
      waits = λ e. fresh_young now p.attempt.stamp s.window (attempt_waits now s.window p.attempt (rw x.attempt at e)).1;
      session = λ e. x.session ∙ (session_lives now s.lifetime s.unit p.session (rw x.session at e)).0;
      lasts = λ e. ltb-false (s.lifetime * s.unit) (now - p.session.since) (session_lives now s.lifetime s.unit p.session (rw x.session at e)).1;
      attempt_stays = λ l. x.attempt ∙ pick_false (is_stale now p.attempt.stamp s.window) no_attempt p.attempt (young_fresh now p.attempt.stamp s.window l);
      session_stays = λ l. x.session ∙ pick_false (is_over now p.session.since s.lifetime s.unit) no_session p.session (le-ltb (s.lifetime * s.unit) (now - p.session.since) l);
    }

-- of a place that is taken after lapsing `Left` says what it was
pub lapsed_left : (now : ℕ) (r : Router) (i : ℕ) → (place_of i (lapsed_at now r)).taken ≡ true → Left r.settings now (place_of i r) (place_of i (lapsed_at now r))
lapsed_left now r i = rw (lapsed_at_law now r i) (left_of_law r.settings now (place_of i r))

-- a place that was taken is taken still, or its last stamp is more than the window old
gone_of : (s : Settings) (now : ℕ) (p : Place) → p.taken ≡ true
    → ((place_at now s.window s.lifetime s.unit p).taken ≡ true) ⊎ (s.window < now - p.last)
gone_of s now p =
    place_all now s.window s.lifetime s.unit p (λ (x : Place). p.taken ≡ true → (x.taken ≡ true) ⊎ (s.window < now - p.last))
    (λ f t. not_both t f)
    (λ _ _ _. inl refl)
    (λ _ _ g _. inr (stale_old now p.last s.window g))

-- a taken place of a router is taken after lapsing, or its last stamp is more than the window old
pub lapsed_gone : (now : ℕ) (r : Router) (i : ℕ) → (place_of i r).taken ≡ true
    → ((place_of i (lapsed_at now r)).taken ≡ true) ⊎ (r.settings.window < now - (place_of i r).last)
lapsed_gone now r i = rw (lapsed_at_law now r i) (gone_of r.settings now (place_of i r))

-- a session that has not lapsed stays, and so does its place
lives_of : (s : Settings) (now : ℕ) (p : Place) → p.taken ≡ true → p.session.live ≡ true → now - p.session.since ≤ s.lifetime * s.unit
    → place_at now s.window s.lifetime s.unit p ≡ kept_place p (attempt_at now s.window p.attempt) p.session
unfolding session_at is_over
lives_of s now p t live young =
    let same : session_at now s.lifetime s.unit p.session ≡ p.session =
    rw (le-ltb (s.lifetime * s.unit) (now - p.session.since) young) in
    place_open now s.window s.lifetime s.unit p t (rw same live) ∙ rw same

-- a place of a router whose session has not lapsed keeps it
pub lapsed_lives : (now : ℕ) (r : Router) (i : ℕ) → (place_of i r).taken ≡ true → (place_of i r).session.live ≡ true
    → now - (place_of i r).session.since ≤ r.settings.lifetime * r.settings.unit
    → place_of i (lapsed_at now r) ≡ kept_place (place_of i r) (attempt_at now r.settings.window (place_of i r).attempt) (place_of i r).session
lapsed_lives now r i t live young = lapsed_at_law now r i ∙ lives_of r.settings now (place_of i r) t live young

-- a place that is free was free and is as it was, or is fresh
free_of : (s : Settings) (now : ℕ) (p : Place) → (place_at now s.window s.lifetime s.unit p).taken ≡ false
    → ((p.taken ≡ false) × (place_at now s.window s.lifetime s.unit p ≡ p)) ⊎ (place_at now s.window s.lifetime s.unit p ≡ fresh_place)
free_of s now p =
    place_all now s.window s.lifetime s.unit p (λ (x : Place). x.taken ≡ false → ((p.taken ≡ false) × (x ≡ p)) ⊎ (x ≡ fresh_place))
    (λ f _. inl (f, refl))
    (λ _ _ e. never (sym e))
    (λ _ _ _ _. inr refl)

-- a free place of a router was free and is as it was, or is fresh
pub lapsed_free : (now : ℕ) (r : Router) (i : ℕ) → (place_of i (lapsed_at now r)).taken ≡ false
    → (((place_of i r).taken ≡ false) × (place_of i (lapsed_at now r) ≡ place_of i r)) ⊎ (place_of i (lapsed_at now r) ≡ fresh_place)
lapsed_free now r i = rw (lapsed_at_law now r i) (free_of r.settings now (place_of i r))

-- a taken place is one of the list
pub taken_within : (r : Router) (i : ℕ) → (place_of i r).taken ≡ true → i < length r.places
unfolding place_of
taken_within r i e = go (nat_lt i (length r.places)) refl
  where
    go : (t : Bool) → nat_lt i (length r.places) ≡ t → i < length r.places
    go true h = ltb-true i (length r.places) h
    go false h =
        let g : slice_index_or r.places i fresh_place ≡ fresh_place = get_or-eq_default r.places fresh_place (ltb-false i (length r.places) h) in
        not_both e (ap (λ (p : Place). p.taken) g)

-- the lowest free place is free, also where it lies past the last
pub lowest_is_free : (r : Router) → (place_of (lowest_free r.places) r).taken ≡ false
unfolding place_of
lowest_is_free r = go (nat_lt (lowest_free r.places) (length r.places)) refl
  where
    go : (t : Bool) → nat_lt (lowest_free r.places) (length r.places) ≡ t → (slice_index_or r.places (lowest_free r.places) fresh_place).taken ≡ false
    go true e = (lowest_free_law r.places).free (ltb-true _ _ e)
    go false e = ap (λ (p : Place). p.taken) (get_or-eq_default r.places fresh_place (ltb-false (lowest_free r.places) (length r.places) e))

-- a place that a reply may be for is taken, and its attempt waits
module _ (r : Router) (i : ℕ) (awaited : awaits r i ≡ true) where
  -- it is taken
  pub awaits_taken : (place_of i r).taken ≡ true
  unfolding awaits
  awaits_taken = both_left (place_of i r).taken _ (both_right (nat_lt i 64) _ awaited)

  -- its attempt waits
  pub awaits_waiting : (place_of i r).attempt.waiting ≡ true
  unfolding awaits
  awaits_waiting = both_right (place_of i r).taken _ (both_right (nat_lt i 64) _ awaited)

-- addresses of taken places are distinct
abbrev pub Apart : Router → Type 0
Apart r = (h i : ℕ) → (place_of h r).taken ≡ true → (place_of i r).taken ≡ true → (place_of h r).address ≡ (place_of i r).address → h ≡ i

-- then no other taken place has the address of place i, which the place x has too
pub apart_alone : (r : Router) → Apart r → (i : ℕ) → (place_of i r).taken ≡ true → (x : Place) → x.address ≡ (place_of i r).address
    → (j : ℕ) → j ≢ i → (place_of j r).taken ≡ true → (place_of j r).address ≡ x.address → ⊥
apart_alone r apart i t x e j n u same = n (apart j i u t (same ∙ e))

-- addresses of taken places stay distinct where places lapse
pub lapsed_apart : (now : ℕ) (r : Router) → Apart r → Apart (lapsed_at now r)
lapsed_apart now r apart h i t u e =
    let x = lapsed_left now r h t in
    let y = lapsed_left now r i u in
    apart h i x.was y.was (sym x.address ∙ e ∙ y.address)

-- another place at number i
module _ (i : ℕ) (p : Place) (r : Router) where
  -- settings stay
  pub with_settings : (with_place i p r).settings ≡ r.settings
  unfolding with_place
  with_settings = refl

  -- the clock stays
  pub with_clock : (with_place i p r).clock ≡ r.clock
  unfolding with_place
  with_clock = refl

  -- there are as many places
  pub with_length : length (with_place i p r).places ≡ length r.places
  unfolding with_place
  with_length = length-set r.places i p

  -- that place is the new one
  pub with_here : i < length r.places → place_of i (with_place i p r) ≡ p
  unfolding with_place place_of
  with_here h = get_or-set_same r.places i p fresh_place h

  -- every other place is as it was
  pub with_other : (j : ℕ) → j ≢ i → place_of j (with_place i p r) ≡ place_of j r
  unfolding with_place place_of
  with_other j n = get_or-set_other r.places i j p fresh_place n

  -- a place after the change is the new one, or as it was
  pub with_cases : (j : ℕ) → (place_of j (with_place i p r) ≡ p) ⊎ (place_of j (with_place i p r) ≡ place_of j r)
  unfolding with_place place_of
  with_cases j = go (ℕ_discrete j i) (nat_lt i (length r.places)) refl
    where
      go : Dec (j ≡ i) → (t : Bool) → nat_lt i (length r.places) ≡ t
          → (place_of j (with_place i p r) ≡ p) ⊎ (place_of j (with_place i p r) ≡ place_of j r)
      go (yes e) true l = inl (rw e (with_here (ltb-true i (length r.places) l)))
      go (yes e) false l = inr (rw (set_out r.places i p (ltb-false i (length r.places) l)))
      go (no n) true l = inr (with_other j n)
      go (no n) false l = inr (with_other j n)

  -- where no other place has its address, addresses of taken places stay distinct
  pub with_apart : i < length r.places → Apart r → ((j : ℕ) → j ≢ i → (place_of j r).taken ≡ true → (place_of j r).address ≡ p.address → ⊥)
      → Apart (with_place i p r)
  with_apart within apart alone a b t u e = go (ℕ_discrete a i) (ℕ_discrete b i)
    where
      here : place_of i (with_place i p r) ≡ p
      here = with_here within

      go : Dec (a ≡ i) → Dec (b ≡ i) → a ≡ b
      go (yes x) (yes y) = x ∙ sym y
      go (yes x) (no n) = let o = with_other b n in absurd (alone b n (rw o at u) (sym (rw (x, here, o) at e)))
      go (no n) (yes x) = let o = with_other a n in absurd (alone a n (rw o at t) (rw (o, x, here) at e))
      go (no n) (no m) =
          let o = with_other a n in
          let k = with_other b m in
          apart a b (rw o at t) (rw k at u) (rw (o, k) at e)

-- the place of an address
module _ (r : Router) (address : List ℕ) where
  -- place i is taken for the address
  pub record Found (i : ℕ) : Type 0 where
    pub taken : (place_of i r).taken ≡ true
    pub its : (place_of i r).address ≡ address

  -- the place that the search finds is taken for the address
  pub found : (i : ℕ) → find_of r.places address ≡ Some i → Found i
  unfolding place_of
  found i e =
      let f = find_at address r.places i e in
      record { taken = for_taken address (slice_index_or r.places i fresh_place) f.here; its = for_address address (slice_index_or r.places i fresh_place) f.here }

  -- where it finds none, no place is
  pub nowhere : find_of r.places address ≡ None → (i : ℕ) → Found i → ⊥
  unfolding place_of
  nowhere e i f =
      not_both (is_for_law address (slice_index_or r.places i fresh_place) f.taken f.its)
      ((find_nowhere address r.places e).none i (taken_within r i f.taken))

  -- where addresses of taken places are distinct, it is the only one
  pub found_is : Apart r → (i : ℕ) → Found i → find_of r.places address ≡ Some i
  found_is apart i f = go (find_of r.places address) refl
    where
      go : (w : Option ℕ) → find_of r.places address ≡ w → w ≡ Some i
      go (Some j) e = let g = found j e in ap Some (apart j i g.taken f.taken (g.its ∙ sym f.its))
      go None e = absurd (nowhere e i f)
