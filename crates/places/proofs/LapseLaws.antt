-- What lapses and what stays; lapsing again at the same moment changes nothing.
use Prim.Native.Nat.{ℕ}
use mathlib.Core.Path.{◌≡◌, refl, sym, ap, ◌∙◌}
use mathlib.Core.Logic.{◌⊎◌, inl, inr, ⊎_elim}
use mathlib.Core.List.{map}
use mathlib.Core.Bool.{Bool, true, false}
use lib.ListN.{length, get_or, length-map, get_or-map}
use Rattle.octets.specs.Choice.{pick}
use Rattle.octets.proofs.ChoiceLaws.{never, pick_all, pick_same, pick_again}
use Rattle.clock.specs.Clock.{is_stale, is_over}
use Rattle.places.specs.declared.place.Attempt.{Attempt}
use Rattle.places.specs.declared.place.Session.{Session}
use Rattle.places.specs.declared.place.Place.{Place}
use Rattle.places.specs.declared.state.Router.{Router}
use Rattle.places.specs.Place.{no_attempt, no_session, fresh_place, attempt_at, session_at, kept_place, place_at}
use Rattle.places.specs.State.{lapsed_at}
use Rattle.places.proofs.MapLaws.{map_again}

-- what shows a flag that none has is what was there
stays : {A : Type 0} (flag : A → Bool) (goes : Bool) (none x : A) → flag none ≡ false → flag (pick goes none x) ≡ true
    → (pick goes none x ≡ x) × (goes ≡ false)
stays flag true none x n f = never cc
stays flag false none x n f = (refl, refl)

module _ (now window : ℕ) (a : Attempt) where
  -- lapsing again changes nothing: an attempt
  pub attempt_again : attempt_at now window (attempt_at now window a) ≡ attempt_at now window a
  unfolding attempt_at
  attempt_again = pick_again (λ (x : Attempt). is_stale now x.stamp window) no_attempt a

  -- an attempt that still waits is the one that did, and is not stale
  pub attempt_waits : (attempt_at now window a).waiting ≡ true → (attempt_at now window a ≡ a) × (is_stale now a.stamp window ≡ false)
  unfolding attempt_at
  attempt_waits w = stays (λ (x : Attempt). x.waiting) (is_stale now a.stamp window) no_attempt a refl w

module _ (now lifetime unit : ℕ) (s : Session) where
  -- lapsing again changes nothing: a session
  pub session_again : session_at now lifetime unit (session_at now lifetime unit s) ≡ session_at now lifetime unit s
  unfolding session_at
  session_again = pick_again (λ (x : Session). is_over now x.since lifetime unit) no_session s

  -- a session that still lives is the one that did, and is not over
  pub session_lives : (session_at now lifetime unit s).live ≡ true → (session_at now lifetime unit s ≡ s) × (is_over now s.since lifetime unit ≡ false)
  unfolding session_at
  session_lives v = stays (λ (x : Session). x.live) (is_over now s.since lifetime unit) no_session s refl v

module _ (now window lifetime unit : ℕ) where
  module _ (p : Place) where
    abbrev attempt : Attempt
    attempt = attempt_at now window p.attempt

    abbrev session : Session
    session = session_at now lifetime unit p.session

    abbrev stale : Bool
    stale = is_stale now p.last window

    -- a place that is free, one that stays by its session or by its last stamp, one that goes
    pub place_free : p.taken ≡ false → place_at now window lifetime unit p ≡ p
    unfolding place_at
    place_free e = rw e

    pub place_open : p.taken ≡ true → session.live ≡ true → place_at now window lifetime unit p ≡ kept_place p attempt session
    unfolding place_at
    place_open e o = rw (e, o)

    pub place_fresh : p.taken ≡ true → stale ≡ false → place_at now window lifetime unit p ≡ kept_place p attempt session
    unfolding place_at
    place_fresh e f = rw (e, f) (pick_same session.live (kept_place p attempt session))

    pub place_gone : p.taken ≡ true → session.live ≡ false → stale ≡ true → place_at now window lifetime unit p ≡ fresh_place
    unfolding place_at
    place_gone e n g = rw (e, n, g)

    -- what holds of a place that is free, of one that stays and of the fresh one holds of what becomes of it
    pub place_all : (P : Place → Type 0)
        → (p.taken ≡ false → P p)
        → (p.taken ≡ true → (session.live ≡ true) ⊎ (stale ≡ false) → P (kept_place p attempt session))
        → (p.taken ≡ true → session.live ≡ false → stale ≡ true → P fresh_place)
        → P (place_at now window lifetime unit p)
    unfolding place_at
    place_all P free kept gone =
        pick_all P p.taken _ p
        (λ t. pick_all P session.live (kept_place p attempt session) _ (λ o. kept t (inl o))
        (λ n. pick_all P stale fresh_place (kept_place p attempt session) (λ g. gone t n g) (λ f. kept t (inr f))))
        free

    -- A place that is taken after lapsing: what it was, and what is kept of it.
    pub record Stays (q : Place) : Type 0 where
      pub was : p.taken ≡ true
      pub why : (session.live ≡ true) ⊎ (stale ≡ false)
      pub address : q.address ≡ p.address
      pub last : q.last ≡ p.last
      pub attempt : q.attempt ≡ attempt_at now window p.attempt
      pub session : q.session ≡ session_at now lifetime unit p.session

    pub place_stays : (place_at now window lifetime unit p).taken ≡ true → Stays (place_at now window lifetime unit p)
    place_stays =
        place_all (λ (q : Place). q.taken ≡ true → Stays q)
        (λ f e. never cc)
        (λ t w e. record { was = t; why = w; address = refl; last = refl; attempt = refl; session = refl })
        (λ t n g e. never cc)

  -- a place that stays is left as it is
  settled : (q : Place) → q.taken ≡ true → attempt q ≡ q.attempt → session q ≡ q.session → (q.session.live ≡ true) ⊎ (stale q ≡ false)
      → place_at now window lifetime unit q ≡ q
  settled q t ea es w = ⊎_elim
      (λ o. place_open q t (rw es o) ∙ rw (ea, es, ← t))
      (λ f. place_fresh q t f ∙ rw (ea, es, ← t)) w

  -- lapsing again changes nothing: a place
  pub place_again_law : (p : Place) → place_at now window lifetime unit (place_at now window lifetime unit p) ≡ place_at now window lifetime unit p
  place_again_law p =
      place_all p (λ (q : Place). place_at now window lifetime unit q ≡ q) (place_free p)
      (λ t w. settled (kept_place p (attempt p) (session p)) refl (attempt_again now window p.attempt) (session_again now lifetime unit p.session) w)
      (λ t n g. place_free fresh_place refl)

module _ (now : ℕ) (r : Router) where
  abbrev at : Place → Place
  at = place_at now r.settings.window r.settings.lifetime r.settings.unit

  -- what lapsing leaves of a router
  pub lapsed_settings : (lapsed_at now r).settings ≡ r.settings
  unfolding lapsed_at
  lapsed_settings = refl

  pub lapsed_clock : (lapsed_at now r).clock ≡ now
  unfolding lapsed_at
  lapsed_clock = refl

  pub lapsed_length : length (lapsed_at now r).places ≡ length r.places
  unfolding lapsed_at
  lapsed_length = length-map r.places at

  pub lapsed_place : (i : ℕ) → get_or (lapsed_at now r).places i fresh_place ≡ at (get_or r.places i fresh_place)
  unfolding lapsed_at
  lapsed_place i =
      ap (get_or (map at r.places) i) (sym (place_free now r.settings.window r.settings.lifetime r.settings.unit fresh_place refl))
      ∙ get_or-map at r.places i fresh_place

  -- lapsing again changes nothing: a router
  pub lapse_again : lapsed_at now (lapsed_at now r) ≡ lapsed_at now r
  unfolding lapsed_at
  lapse_again = rw (map_again at (place_again_law now r.settings.window r.settings.lifetime r.settings.unit) r.places)
