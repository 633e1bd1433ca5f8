-- What the call of a request makes of one that arrives in time (RouterArrivals): it comes to the place of its address, and the tests made there say that
-- the place waits on the request, or holds the session that it opened.
use Rattle.std.specs.Prelude.{ℕ, Bool, true, ◌≡◌, List, length, nat_lt, ◌==◌}
use Rattle.std.proofs.Common.{ap, ◌∙◌, eq-eqb, eqb-true, le-ltb}
use Rattle.octets.specs.Choice.{both, flip}
use Rattle.octets.proofs.ChoiceLaws.{pick_false, both_left, both_right, both_true}
use Rattle.octets.proofs.SameLaws.{same_true, true_same}
use Rattle.object.specs.declared.family.Family.TheVariants.{Misauth}
use Rattle.object.specs.Family.{limit_of}
use Rattle.terms.specs.Terms.{lists, is_one_type}
use Rattle.clock.specs.Clock.{is_ahead, is_stale}
use Rattle.misp.specs.Request.{RequestValues}
use Rattle.places.specs.declared.place.Place.{Place}
use Rattle.places.specs.declared.state.Router.{Router}
use Rattle.places.specs.State.{lapsed_at, find_of}
use Rattle.turn.specs.Outcome.{place_of}
use Rattle.entering.specs.Request.{same_request, repeats_attempt, repeats_session, by_place, judged, requested}
use Rattle.theorems.specs.FreshLaws.{young_fresh}
use Rattle.theorems.specs.RouterPlaceLaws.{Found}
use Rattle.theorems.specs.RouterArrivals.{Arrives, Waits, Opened}

module _ (r : Router) (now : ℕ) (from m out : List ℕ) (v : RequestValues) (a : Arrives r now m out v) where
  -- the router with what has lapsed gone
  abbrev q : Router
  q = lapsed_at now r

  -- past 12 the place of the address decides
  pub arrived : requested r now from m out ≡ by_place (find_of q.places from) q from m v out
  unfolding requested judged lapsed_at
  arrived =
      pick_false (nat_lt (length out) (limit_of Misauth)) _ _ (le-ltb (length out) (limit_of Misauth) a.output)
      ∙ pick_false (nat_lt now r.clock) _ _ (le-ltb now r.clock a.clock)
      ∙ rw a.reads
      (pick_false v.s _ _ a.s_is_zero
      ∙ pick_false (flip (is_one_type v.security)) _ _ (ap flip a.one_type)
      ∙ pick_false (flip (lists r.settings.network v.layers)) _ _ (ap flip a.our_network)
      ∙ pick_false (is_ahead now v.stamp) _ _ (le-ltb now v.stamp a.not_ahead)
      ∙ pick_false (is_stale now v.stamp r.settings.window) _ _ (young_fresh now v.stamp r.settings.window a.not_old))

-- where the test of a repeat passes, what it repeats is there, and stamp and check value are the same
same_request_law : (v : RequestValues) (live : Bool) (stamp : ℕ) (check : List ℕ) → both live (same_request v stamp check) ≡ true
    → (live ≡ true) × (v.stamp ≡ stamp) × (v.check ≡ check)
same_request_law v live stamp check e =
    let same = both_right live _ e in (
      both_left live _ e,
      eqb-true v.stamp stamp (both_left (v.stamp == stamp) _ same),
      same_true v.check check (both_right (v.stamp == stamp) _ same),
    )

-- and the other way round
request_same : (v : RequestValues) {live : Bool} (stamp : ℕ) (check : List ℕ) → live ≡ true → v.stamp ≡ stamp → v.check ≡ check
    → both live (same_request v stamp check) ≡ true
request_same v stamp check l e f = both_true _ _ l (both_true _ _ (eq-eqb v.stamp stamp e) (true_same v.check check f))

module _ (q : Router) (from : List ℕ) (v : RequestValues) (i : ℕ) where
  -- place i
  abbrev p : Place
  p = place_of i q

  -- where the test of a repeated attempt passes, the place waits on the request
  pub repeats_waits : Found q from i → repeats_attempt v p ≡ true → Waits q from v i
  unfolding repeats_attempt
  repeats_waits f e =
      let (waiting, stamp, check) = same_request_law v p.attempt.waiting p.attempt.stamp p.attempt.check e in
      record { place = f; waiting = waiting; stamp = stamp; check = check }

  -- and the other way round
  pub waits_repeats : Waits q from v i → repeats_attempt v p ≡ true
  unfolding repeats_attempt
  waits_repeats w = request_same v p.attempt.stamp p.attempt.check w.waiting w.stamp w.check

  -- where the test of a repeated session passes, the place holds the session that the request opened
  pub repeats_opened : Found q from i → repeats_session v p ≡ true → Opened q from v i
  unfolding repeats_session
  repeats_opened f e =
      let (live, stamp, check) = same_request_law v p.session.live p.session.stamp p.session.check e in
      record { place = f; live = live; stamp = stamp; check = check }

  -- and the other way round
  pub opened_repeats : Opened q from v i → repeats_session v p ≡ true
  unfolding repeats_session
  opened_repeats w = request_same v p.session.stamp p.session.check w.live w.stamp w.check
