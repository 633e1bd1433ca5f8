-- A request that arrives in time (what it has passed), and what the place of its address holds of it: that it waits, or the session that it opened;
-- and that both are there still until they lapse. No call is unfolded here.
use Rattle.std.specs.Prelude.{ℕ, ◌-◌, ◌*◌, ◌<◌, ◌≤◌, true, false, ◌≡◌, List, length, Ok}
use Rattle.std.proofs.Common.{ap, ◌∙◌, ⊎_elim, arith}
use Rattle.object.specs.declared.family.Family.TheVariants.{Misauth}
use Rattle.object.specs.Family.{limit_of}
use Rattle.terms.specs.Terms.{lists, is_one_type}
use Rattle.position.specs.Position.{in_range}
use Rattle.misp.specs.Request.{RequestValues, read_request, request_told}
use Rattle.places.specs.declared.place.Place.{Place}
use Rattle.places.specs.declared.state.Router.{Router}
use Rattle.places.specs.State.{lapsed_at}
use Rattle.turn.specs.Outcome.{place_of}
use Rattle.theorems.specs.RouterPlaceLaws.{lapsed_left, lapsed_gone, lapsed_lives, Found}

-- The request m, with the fields v, arrives in time: it passes 20, 7, 1 to 6 and 8 to 12, and the access request can be written.
pub record Arrives (r : Router) (now : ℕ) (m out : List ℕ) (v : RequestValues) : Type 0 where
  pub output : limit_of Misauth ≤ length out
  pub clock : r.clock ≤ now
  pub reads : request_told m (read_request m) ≡ Ok v
  pub s_is_zero : v.s ≡ false
  pub one_type : is_one_type v.security ≡ true
  pub our_network : lists r.settings.network v.layers ≡ true
  pub not_ahead : v.stamp ≤ now
  pub not_old : now - v.stamp ≤ r.settings.window
  pub position : in_range r.settings.position ≡ true

-- The place i of the address waits on this request: on its stamp and check value.
pub record Waits (r : Router) (from : List ℕ) (v : RequestValues) (i : ℕ) : Type 0 where
  pub place : Found r from i
  pub waiting : (place_of i r).attempt.waiting ≡ true
  pub stamp : v.stamp ≡ (place_of i r).attempt.stamp
  pub check : v.check ≡ (place_of i r).attempt.check

-- It holds the session that this request opened, with the same stamp and check value.
pub record Opened (r : Router) (from : List ℕ) (v : RequestValues) (i : ℕ) : Type 0 where
  pub place : Found r from i
  pub live : (place_of i r).session.live ≡ true
  pub stamp : v.stamp ≡ (place_of i r).session.stamp
  pub check : v.check ≡ (place_of i r).session.check

-- an attempt whose stamp is at most W old, and not above the last, waits still after lapsing
pub waits_still : (r : Router) (now : ℕ) (from : List ℕ) (v : RequestValues) (i : ℕ) → Waits r from v i
    → (place_of i r).attempt.stamp ≤ (place_of i r).last → now - v.stamp ≤ r.settings.window → Waits (lapsed_at now r) from v i
waits_still r now from v i w last young =
    ⊎_elim
    (λ t.
    let x = lapsed_left now r i t in
    let same = x.attempt_stays (rw w.stamp at young) in
    record {
      place = record { taken = t; its = x.address ∙ w.place.its };
      waiting = rw same w.waiting;
      stamp = rw same w.stamp;
      check = rw same w.check;
    })
    (λ (gone : r.settings.window < now - (place_of i r).last).
    let stamp : v.stamp ≡ (place_of i r).attempt.stamp = w.stamp in
    absurd (omega arith))
    (lapsed_gone now r i w.place.taken)

-- a session that has not lapsed is open still, and as it was
pub opened_still : (r : Router) (now : ℕ) (from : List ℕ) (v : RequestValues) (i : ℕ) → Opened r from v i
    → now - (place_of i r).session.since ≤ r.settings.lifetime * r.settings.unit
    → Opened (lapsed_at now r) from v i × ((place_of i (lapsed_at now r)).session ≡ (place_of i r).session)
opened_still r now from v i w young =
    let t = ap (λ (y : Place). y.taken) (lapsed_lives now r i w.place.taken w.live young) in
    let x = lapsed_left now r i t in
    let same = x.session_stays young in (
      record {
        place = record { taken = t; its = x.address ∙ w.place.its };
        live = rw same w.live;
        stamp = rw same w.stamp;
        check = rw same w.check;
      },
      same,
    )
