-- No step adds a session to what the router holds, save one at which an accept opens it.
use Rattle.std.specs.Prelude.{ℕ, true, ◌≡◌, ◌⊎◌, List}
use Rattle.std.proofs.Common.{sym, ◌∙◌, inl, inr, ⊎_elim}
use Rattle.octets.proofs.ChoiceLaws.{never}
use Rattle.misp.specs.Request.{RequestValues}
use Rattle.places.specs.declared.place.Place.{Place}
use Rattle.places.specs.declared.state.Router.{Router}
use Rattle.places.specs.State.{lapsed_at}
use Rattle.turn.specs.Outcome.{place_of, with_place}
use Rattle.entering.specs.Request.{attempted, placed}
use Rattle.link.specs.World.{Member, Packet, Event}
use Rattle.link.specs.Opened.{HeldIn, Holds, Opens}
use Rattle.link.specs.Can.{Lessened, Took, repeats, renews, places, Opening, RouterCan, stays, lapses, lessens, says_again, forwards, opens}
use Rattle.theorems.specs.RouterPlaceLaws.{lapsed_left, with_cases}

-- every session that the router holds after was held before
abbrev pub AddsNone : Router → Router → Type 0
AddsNone r r' = (a : List ℕ) (s : ℕ) (k : List ℕ) → Holds r' a s k → Holds r a s k

-- a place that is taken after lapsing is as before, save that its attempt or its session may have ended
pub lapsed_lessened : (now : ℕ) (r : Router) (j : ℕ) → (place_of j (lapsed_at now r)).taken ≡ true
    → Lessened (place_of j r) (place_of j (lapsed_at now r))
lapsed_lessened now r j t =
    let l = lapsed_left now r j t in
    record { taken = t; address = l.address; last = l.last; attempt = l.attempt; session = l.session }

module _ {a : List ℕ} {s : ℕ} {k : List ℕ} where
  -- where none is added, none is opened
  pub opens_none : {A : Type 0} {r r' : Router} → AddsNone r r' → Opens r r' a s k → A
  opens_none none o = absurd (o.not_before k (none a s k o.held_after))

  -- a session in a place whose attempt or session ended was in it before
  held_lessened : (p x : Place) → p.taken ≡ true → Lessened p x → HeldIn x a s k → HeldIn p a s k
  held_lessened p x t l h =
      let same = l.session h.live in
      record {
        taken = t;
        its = sym l.address ∙ h.its;
        live = rw same at h.live;
        stamped = rw same at h.stamped;
        keyed = rw same at h.keyed;
      }

  -- one held after lapsing was held before
  pub holds_lapsed : (now : ℕ) (r : Router) → Holds (lapsed_at now r) a s k → Holds r a s k
  holds_lapsed now r h =
      let j = h.place in
      let t = h.held.taken in
      record {
        place = j;
        held = held_lessened (place_of j r) (place_of j (lapsed_at now r)) (lapsed_left now r j t).was (lapsed_lessened now r j t) h.held;
      }

  -- one held after a place changed was held before, or is in that place
  pub holds_with : (j : ℕ) (x : Place) (r : Router) → Holds (with_place j x r) a s k → Holds r a s k ⊎ HeldIn x a s k
  holds_with j x r h =
      ⊎_elim
      (λ e. inr (rw e at h.held))
      (λ e. inl (record { place = h.place; held = rw e at h.held }))
      (with_cases j x r h.place)

  -- one in a place with a new attempt was in it before
  held_attempted : (v : RequestValues) (p : Place) → p.taken ≡ true → HeldIn (attempted v p) a s k → HeldIn p a s k
  unfolding attempted
  held_attempted v p t h = record { taken = t; its = h.its; live = h.live; stamped = h.stamped; keyed = h.keyed }

  -- a place that was free and took a request holds none
  held_placed : (from : List ℕ) (v : RequestValues) → HeldIn (placed from v) a s k → ⊥
  unfolding placed
  held_placed from v h = never h.live

  -- a request that comes into its place adds none
  pub holds_took : (q r : Router) (from : List ℕ) (v : RequestValues) (j : ℕ) → Took q r from v j → Holds r a s k → Holds q a s k
  holds_took q r from v j (repeats e) h = rw e at h
  holds_took q r from v j (renews f l e) h =
      let p = place_of j q in
      ⊎_elim (λ x. x) (λ x. record { place = j; held = held_attempted v p f.taken x }) (holds_with j (attempted v p) q (rw e at h))
  holds_took q r from v j (places b t none e) h =
      ⊎_elim (λ x. x) (λ x. absurd (held_placed from v x)) (holds_with j (placed from v) q (rw e at h))

module _ {count : ℕ} {address : Member count → List ℕ} {r r' : Router} {e : Event count} {ps : List Packet} where
  -- whatever an event can do to the router: no session is added, or an accept opened one
  pub adds_or_opens : RouterCan address r r' e ps → AddsNone r r' ⊎ Opening r r' e ps
  adds_or_opens (stays is sends) = inl (λ a s k h. rw is at h)
  adds_or_opens (lapses now c is plain) = inl (λ a s k h. holds_lapsed now.ticks r (rw is at h))
  adds_or_opens (lessens now j p c t l is plain) =
      let q = lapsed_at now.ticks r in
      inl (λ a s k h.
      holds_lapsed now.ticks r
      (⊎_elim (λ x. x) (λ x. record { place = j; held = held_lessened (place_of j q) p t l x }) (holds_with j p q (rw is at h))))
  adds_or_opens (says_again now j c said is) = inl (λ a s k h. holds_lapsed now.ticks r (rw is at h))
  adds_or_opens (forwards x) =
      let now = x.now.ticks in
      inl (λ a s k h. holds_lapsed now r (holds_took (lapsed_at now r) r' (address x.i) x.v x.j x.took h))
  adds_or_opens (opens x) = inr x
