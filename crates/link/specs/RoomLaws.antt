-- While the places that are taken are one node's, there is room for another.
use Rattle.std.specs.Prelude.{ℕ, ◌<◌, ◌≤◌, Bool, ◌≡◌, List, length, nat_le, slice_index_or, None}
use Rattle.std.proofs.Math.Bool.{true, false}
use Rattle.std.proofs.Math.Path.{refl}
use Rattle.std.proofs.Common.{sym, ◌∙◌, ⊎_elim, leb-true, leb-false}
use native.Mathlib.Omega.{arith}
use Rattle.octets.proofs.ChoiceLaws.{not_both}
use Rattle.octets.proofs.SameLaws.{false_same}
use Rattle.misp.specs.Request.{RequestValues}
use Rattle.places.specs.Place.{fresh_place}
use Rattle.places.specs.declared.place.Place.{Place}
use Rattle.places.specs.declared.state.Router.{Router}
use Rattle.places.specs.State.{lapsed_at, is_for, find_of, lowest_free}
use Rattle.places.proofs.FindLaws.{not_found}
use Rattle.places.proofs.WordLaws.{lowest_free_law}
use Rattle.turn.specs.Outcome.{place_of, with_place}
use Rattle.entering.specs.Request.{attempted, placed}
use Rattle.settling.specs.Reply.{settled, opened_by}
use Rattle.link.specs.World.{Clock, Member, Packet, Event, to_requested}
use Rattle.link.specs.Acceptable.{HasRoom}
use Rattle.link.specs.Can.{Took, repeats, renews, places, RouterCan, stays, lapses, lessens, says_again, forwards, opens}
use Rattle.theorems.specs.RouterPlaceLaws.{lapsed_left, with_cases, Apart}

-- every place that is taken is of this address
abbrev pub OnlyFor : List ℕ → Router → Type 0
OnlyFor a r = (h : ℕ) → (place_of h r).taken ≡ true → (place_of h r).address ≡ a

module _ (a : List ℕ) where
  -- this stays so: lapsing takes no place
  pub only_lapsed : (now : ℕ) (r : Router) → OnlyFor a r → OnlyFor a (lapsed_at now r)
  only_lapsed now r only h t = let l = lapsed_left now r h t in l.address ∙ only h l.was

  -- it stays so where a place changes, if that is of this address
  only_with : (j : ℕ) (x : Place) (q : Router) → OnlyFor a q → x.address ≡ a → OnlyFor a (with_place j x q)
  only_with j x q only e h t = ⊎_elim (λ same. rw same e) (λ same. rw same (only h (rw same at t))) (with_cases j x q h)

  -- and where a request from this address comes in
  only_took : (q r : Router) (from : List ℕ) (v : RequestValues) (j : ℕ) → from ≡ a → OnlyFor a q → Took q r from v j → OnlyFor a r
  unfolding attempted placed
  only_took q r from v j e only (repeats is) = rw is only
  only_took q r from v j e only (renews f l is) = rw is (only_with j (attempted v (place_of j q)) q only (f.its ∙ e))
  only_took q r from v j e only (places b t none is) = rw is (only_with j (placed from v) q only e)

  -- no step brings in another address but a request from it
  pub only_can : {count : ℕ} (address : Member count → List ℕ) (r r' : Router) (e : Event count) (ps : List Packet) → RouterCan address r r' e ps
      → ((i : Member count) (now : Clock) (m out : List ℕ) → e ≡ to_requested i now m out → address i ≡ a) → OnlyFor a r → OnlyFor a r'
  only_can address r r' e ps (stays is sends) from only = rw is only
  only_can address r r' e ps (lapses now c is plain) from only = rw is (only_lapsed now.ticks r only)
  only_can address r r' e ps (lessens now j p c t l is plain) from only =
      let q = only_lapsed now.ticks r only in
      rw is (only_with j p (lapsed_at now.ticks r) q (l.address ∙ q j t))
  only_can address r r' e ps (says_again now j c said is) from only = rw is (only_lapsed now.ticks r only)
  only_can address r r' e ps (forwards x) from only =
      let now = x.now.ticks in
      only_took (lapsed_at now r) r' (address x.i) x.v x.j (from x.i x.now x.m x.out x.is)
      (only_lapsed now r only) x.took
  only_can address r r' e ps (opens x) from only =
      let q = lapsed_at x.now.ticks r in
      let p = place_of x.j q in
      let only_q = only_lapsed x.now.ticks r only in
      rw x.granted.is (only_with x.j (settled p (opened_by q p x.now.ticks x.v)) q only_q (only_q x.j x.granted.taken))

-- the lowest free place is no higher than any free one
lowest_least : (ps : List Place) (h : ℕ) → (slice_index_or ps h fresh_place).taken ≡ false → lowest_free ps ≤ h
lowest_least ps h free = go (nat_le (lowest_free ps) h) refl
  where
    go : (b : Bool) → nat_le (lowest_free ps) h ≡ b → lowest_free ps ≤ h
    go true e = leb-true (lowest_free ps) h e
    go false e = not_both ((lowest_free_law ps).below h (leb-false (lowest_free ps) h e)) free

module _ (a b : List ℕ) (other : a ≡ b → ⊥) (q : Router) (size : length q.places ≡ 64) (only : OnlyFor a q)
    (apart : Apart q) where
  -- two places of one address are one, so of the first two one is free
  free_one : (h : ℕ) × (h < 64) × ((place_of h q).taken ≡ false)
  free_one = go (place_of 0 q).taken refl (place_of 1 q).taken refl
    where
      go : (x : Bool) → (place_of 0 q).taken ≡ x → (y : Bool) → (place_of 1 q).taken ≡ y → (h : ℕ) × (h < 64) × ((place_of h q).taken ≡ false)
      go false e y f = (0, omega arith, e)
      go true e false f = (1, omega arith, f)
      go true e true f = let z : ◌≡◌ {A = ℕ} 0 1 = apart 0 1 e f (only 0 e ∙ sym (only 1 f)) in absurd (omega arith)

  -- so the lowest free place is one of the 64
  lowest_below : lowest_free q.places < 64
  unfolding place_of
  lowest_below =
      let (h, l, e) = free_one in
      let m : lowest_free q.places ≤ h = lowest_least q.places h e in
      omega arith

  -- and the other address has no place
  nowhere : find_of q.places b ≡ None
  unfolding place_of
  nowhere = not_found b q.places (record { none = λ h l. go h (place_of h q).taken refl })
    where
      go : (h : ℕ) (t : Bool) → (place_of h q).taken ≡ t → is_for b (place_of h q) ≡ false
      go h true e = rw (e, only h e) (false_same a b other)
      go h false e = rw e

  -- there is room for a request of another address
  pub room : (v : RequestValues) → HasRoom (find_of q.places b) q v
  room v = rw nowhere lowest_below
