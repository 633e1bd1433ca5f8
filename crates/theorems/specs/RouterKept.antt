-- Why a stamp that a router took from an address is never taken from it again: the address keeps a place whose last stamp is not below that stamp, or the
-- stamp is more than W old. Lapsing and a change of one place keep it so.
use Rattle.std.specs.Prelude.{ℕ, ◌-◌, ◌<◌, ◌≤◌, true, ◌≡◌, ◌⊎◌, List, length}
use Rattle.std.proofs.Common.{◌∙◌, inl, inr, ⊎_elim, arith}
use Rattle.std.proofs.Math.Decide.{ℕ_discrete}
use Rattle.places.specs.declared.place.Place.{Place}
use Rattle.places.specs.declared.state.Router.{Router}
use Rattle.places.specs.State.{lapsed_at}
use Rattle.places.proofs.LapseLaws.{lapsed_settings, lapsed_clock}
use Rattle.turn.specs.Outcome.{place_of, with_place}
use Rattle.theorems.specs.RouterPlaceLaws.{lapsed_left, lapsed_gone, with_settings, with_clock, with_here, with_other, Found}

-- the address has a place whose last stamp is not below this one
pub record Stands (r : Router) (from : List ℕ) (stamp : ℕ) : Type 0 where
  pub place : ℕ
  pub found : Found r from place
  pub last : stamp ≤ (place_of place r).last

-- or the stamp is more than W old, so that 12 refuses it
abbrev pub Kept : Router → List ℕ → ℕ → Type 0
Kept r from stamp = Stands r from stamp ⊎ (r.settings.window < r.clock - stamp)

module _ (from : List ℕ) (stamp : ℕ) where
  -- after lapsing
  pub lapsed_kept : (r : Router) (now : ℕ) → r.clock ≤ now → Kept r from stamp → Kept (lapsed_at now r) from stamp
  lapsed_kept r now c (inl k) =
      ⊎_elim
      (λ t.
      let l = lapsed_left now r k.place t in
      inl (record { place = k.place; found = record { taken = t; its = l.address ∙ k.found.its }; last = rw l.last k.last }))
      (λ (g : r.settings.window < now - (place_of k.place r).last).
      let x : stamp ≤ (place_of k.place r).last = k.last in
      inr (rw (lapsed_settings now r, lapsed_clock now r) (omega arith)))
      (lapsed_gone now r k.place k.found.taken)
  lapsed_kept r now c (inr g) = inr (rw (lapsed_settings now r, lapsed_clock now r) (omega arith))

  -- after one place changed: where it was taken its address stays, and its last stamp does not fall
  module _ (q : Router) (i : ℕ) (x : Place) (within : i < length q.places) (taken : x.taken ≡ true)
      (rises : (place_of i q).taken ≡ true → (x.address ≡ (place_of i q).address) × ((place_of i q).last ≤ x.last)) where
    -- then a stamp that was kept is kept
    pub with_kept : Kept q from stamp → Kept (with_place i x q) from stamp
    with_kept (inr g) = inr (rw (with_settings i x q, with_clock i x q) g)
    with_kept (inl k) = go (ℕ_discrete k.place i)
      where
        go : Dec (k.place ≡ i) → Kept (with_place i x q) from stamp
        go (no n) =
            let o = with_other i x q k.place n in
            inl (record { place = k.place; found = record { taken = rw o k.found.taken; its = rw o k.found.its }; last = rw o k.last })
        go (yes e) =
            let o = with_here i x q within in
            let t = rises (rw e at k.found.taken) in
            let l : (place_of i q).last ≤ x.last = t.1 in
            let m : stamp ≤ (place_of i q).last = rw e at k.last in
            inl (record { place = i; found = record { taken = rw o taken; its = rw o (t.0 ∙ rw e at k.found.its) }; last = rw o (omega arith) })
