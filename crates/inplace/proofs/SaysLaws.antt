-- The bytes of a place, and the place that they say: what lapses from the one lapses from the other.
use Prim.Native.Nat.{ℕ}
use mathlib.Core.Bool.{Bool, true, false}
use mathlib.Core.List.{List}
use mathlib.Core.Path.{◌≡◌, refl, sym, ap, subst, ◌∙◌}
use lib.Dec.{lit<}
use lib.ListN.{length, get_or, replicate}
use Rattle.octets.specs.Choice.{pick}
use Rattle.octets.specs.Put.{put_in}
use Rattle.octets.proofs.ChoiceLaws.{pick_all}
use Rattle.octets.proofs.PutLaws.{put_in_length}
use Rattle.clock.specs.Clock.{is_stale, is_over}
use Rattle.places.specs.declared.place.Place.{Place}
use Rattle.places.specs.Place.{no_attempt, no_session, fresh_place, attempt_at, session_at, kept_place, place_at}
use Rattle.laid.specs.Field.{flag_of, number_at}
use Rattle.storedrouter.specs.Place.{place_bytes, place_from}
use Rattle.storedrouter.proofs.PlaceLaws.{AttemptHeld, SessionHeld, PlaceHeld}
use Rattle.inplace.specs.Change.{blanked, attempt_gone, session_gone, lapsed_bytes}
use Rattle.inplace.proofs.BlankLaws.{stamp_at, since_at, live_at, last_at, taken_at, place_zeros, zeros_place, from_attempt, from_session, all_zeros, bytes_attempt, bytes_session, place_with_attempt, place_with_session}

-- no attempt and no session are within their types
attempt_held : AttemptHeld no_attempt
attempt_held = record { stamp = lit< tt; check = refl }

session_held : SessionHeld no_session
session_held = record { stamp = lit< tt; check = refl; key = refl; since = lit< tt }

-- no byte more or less
blanked_long : (g : Bool) (at n : ℕ) (b : List ℕ) → length (blanked g at n b) ≡ length b
unfolding blanked
blanked_long g at n b = pick_all (λ (x : List ℕ). length x ≡ length b) g (put_in b at (replicate n 0)) b (λ e. put_in_length b at (replicate n 0)) (λ e. refl)

pub lapsed_long : (now window lifetime unit : ℕ) (b : List ℕ) → length (lapsed_bytes now window lifetime unit b) ≡ length b
unfolding lapsed_bytes attempt_gone session_gone
lapsed_long now window lifetime unit b =
    let a = attempt_gone now window b in
    let v = session_gone now lifetime unit a in
    let k : length v ≡ length b = blanked_long (is_over now (number_at 8 81 a) lifetime unit) 40 49 a ∙ blanked_long (is_stale now (number_at 8 16 b) window) 15 25 b in
    let goes = is_stale now (number_at 8 7 v) window in
    pick_all (λ (x : List ℕ). length x ≡ length b) (flag_of (get_or b 0 0)) (pick (flag_of (get_or v 40 0)) v (blanked goes 0 89 v)) b
    (λ t. pick_all (λ (x : List ℕ). length x ≡ length b) (flag_of (get_or v 40 0)) v (blanked goes 0 89 v) (λ o. k) (λ n. blanked_long goes 0 89 v ∙ k))
    (λ f. refl)

module _ (C : Type 0) where
  -- bytes that say a place, and are the bytes of it where C holds
  pub record Says (b : List ℕ) (p : Place) : Type 0 where
    pub long : length b ≡ 89
    pub from : place_from b ≡ p
    pub held : PlaceHeld p
    pub bytes : C → b ≡ place_bytes p

  -- bytes are put, and the place changes as they say
  says_put : {b : List ℕ} {p : Place} → Says b p → (at : ℕ) (z : List ℕ) (f : Place → Place) → place_from (put_in b at z) ≡ f (place_from b)
      → PlaceHeld (f p) → put_in (place_bytes p) at z ≡ place_bytes (f p) → Says (put_in b at z) (f p)
  says_put {b} w at z f reads held are = record {
    long = put_in_length b at z ∙ w.long;
    from = reads ∙ ap f w.from;
    held = held;
    bytes = λ c. ap (λ (x : List ℕ). put_in x at z) (w.bytes c) ∙ are;
  }

  -- the attempt goes
  says_attempt : {b : List ℕ} {p : Place} → Says b p → Says (put_in b 15 (replicate 25 0)) (place_with_attempt p no_attempt)
  says_attempt {b} {p} w =
      let h = w.held in
      says_put w 15 (replicate 25 0) (λ q. place_with_attempt q no_attempt) (from_attempt b w.long)
      (record { address = h.address; last = h.last; attempt = attempt_held; session = h.session }) (bytes_attempt p h)

  -- the session goes
  says_session : {b : List ℕ} {p : Place} → Says b p → Says (put_in b 40 (replicate 49 0)) (place_with_session p no_session)
  says_session {b} {p} w =
      let h = w.held in
      says_put w 40 (replicate 49 0) (λ q. place_with_session q no_session) (from_session b w.long)
      (record { address = h.address; last = h.last; attempt = h.attempt; session = session_held }) (bytes_session p h)

  -- all of the place goes
  says_fresh : {b : List ℕ} {p : Place} → Says b p → Says (put_in b 0 (replicate 89 0)) fresh_place
  says_fresh {b} {p} w =
      let e = all_zeros b w.long in
      record {
        long = ap length e;
        from = ap place_from e ∙ place_zeros;
        held = record { address = refl; last = lit< tt; attempt = attempt_held; session = session_held };
        bytes = λ c. e ∙ sym zeros_place;
      }

  -- one of two, by tests that agree
  says_pick : {x y : List ℕ} {p q : Place} (g goes : Bool) → g ≡ goes → (goes ≡ true → Says x p) → (goes ≡ false → Says y q)
      → Says (pick g x y) (pick goes p q)
  says_pick g true e f h = rw e (f refl)
  says_pick g false e f h = rw e (h refl)

  -- the attempt goes, or stays, by such tests
  attempt_if : {b : List ℕ} {p : Place} (g goes : Bool) → g ≡ goes → Says b p
      → Says (blanked g 15 25 b) (place_with_attempt p (pick goes no_attempt p.attempt))
  unfolding blanked
  attempt_if g true e w = rw e (says_attempt w)
  attempt_if g false e w = rw e w

  -- and so the session
  session_if : {b : List ℕ} {p : Place} (g goes : Bool) → g ≡ goes → Says b p
      → Says (blanked g 40 49 b) (place_with_session p (pick goes no_session p.session))
  unfolding blanked
  session_if g true e w = rw e (says_session w)
  session_if g false e w = rw e w

  module _ (now window lifetime unit : ℕ) where
    -- an attempt that has lapsed goes
    says_attempt_gone : {b : List ℕ} {p : Place} → Says b p
        → Says (attempt_gone now window b) (place_with_attempt p (attempt_at now window p.attempt))
    unfolding attempt_gone attempt_at
    says_attempt_gone {b} {p} w =
        let stamp = stamp_at b ∙ ap (λ (q : Place). q.attempt.stamp) w.from in
        attempt_if (is_stale now (number_at 8 16 b) window) (is_stale now p.attempt.stamp window) (ap (λ (n : ℕ). is_stale now n window) stamp) w

    -- and so a session
    says_session_gone : {b : List ℕ} {p : Place} → Says b p
        → Says (session_gone now lifetime unit b) (place_with_session p (session_at now lifetime unit p.session))
    unfolding session_gone session_at
    says_session_gone {b} {p} w =
        let since = since_at b ∙ ap (λ (q : Place). q.session.since) w.from in
        session_if (is_over now (number_at 8 81 b) lifetime unit) (is_over now p.session.since lifetime unit)
        (ap (λ (n : ℕ). is_over now n lifetime unit) since) w

    -- what has lapsed goes from the bytes as it does from the place
    pub says_lapsed : {b : List ℕ} {p : Place} → Says b p → Says (lapsed_bytes now window lifetime unit b) (place_at now window lifetime unit p)
    unfolding lapsed_bytes place_at blanked
    says_lapsed {b} {p} w =
        let a = attempt_at now window p.attempt in
        let v = session_at now lifetime unit p.session in
        let left = session_gone now lifetime unit (attempt_gone now window b) in
        let w₂ : Says left (place_with_session (place_with_attempt p a) v) = says_session_gone (says_attempt_gone w) in
        let kept : p.taken ≡ true → Says left (kept_place p a v) =
        λ t. subst (λ (b : Bool). Says left (record { taken = b; address = p.address; last = p.last; attempt = a; session = v })) t w₂ in
        says_pick (flag_of (get_or b 0 0)) p.taken (taken_at b ∙ ap (λ (q : Place). q.taken) w.from)
        (λ t.
        says_pick (flag_of (get_or left 40 0)) v.live (live_at left ∙ ap (λ (q : Place). q.session.live) w₂.from)
        (λ o. kept t)
        (λ n.
        says_pick (is_stale now (number_at 8 7 left) window) (is_stale now p.last window)
        (ap (λ (n : ℕ). is_stale now n window) (last_at left ∙ ap (λ (q : Place). q.last) w₂.from))
        (λ g. says_fresh w₂) (λ f. kept t)))
        (λ f. w)
