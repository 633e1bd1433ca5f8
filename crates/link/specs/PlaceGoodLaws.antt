-- What the router says in passing, and what one place can come to, keep the invariant: the place's attempt or session ends, or a request
-- comes into it.
use Rattle.std.specs.Prelude.{ℕ, ◌-◌, ◌≤◌, ◌<◌, true, ◌≡◌, List, ◌∷◌, ◌++◌}
use Rattle.std.proofs.Math.Path.{refl, sym}
use Rattle.std.proofs.Common.{◌∙◌, inl, inr, arith}
use Rattle.octets.proofs.ChoiceLaws.{never, not_both}
use Rattle.misp.specs.Request.{RequestValues}
use Rattle.places.specs.declared.place.Place.{Place}
use Rattle.places.specs.declared.place.Session.{Session}
use Rattle.places.specs.declared.state.Settings.{Settings}
use Rattle.places.specs.declared.state.Router.{Router}
use Rattle.places.specs.State.{lapsed_at}
use Rattle.places.proofs.LapseLaws.{lapsed_settings, lapsed_clock}
use Rattle.turn.specs.Outcome.{place_of, with_place}
use Rattle.turn.specs.Writes.{success_for}
use Rattle.router.specs.Beacon.{beacon_of}
use Rattle.entering.specs.Request.{attempted, placed}
use Rattle.node.specs.declared.Node.{Node}
use Rattle.theorems.specs.RouterPlaceLaws.{taken_within, apart_alone, Found}
use Rattle.theorems.specs.RouterKept.{Kept}
use Rattle.link.specs.World.{Member, Packet, to_everyone, to_node, World, address_of}
use Rattle.link.specs.Can.{Plain, nothing, beacons, tells, Lessened, Took, repeats, renews, places}
use Rattle.link.specs.Inv.{Log, Ask, Under, AttemptFine, PlaceFine, Inv}
use Rattle.link.specs.Keeps.{not_asked, inv_sent, lessened_fine, inv_place}

-- a stamp that is fresh by a call's clock is fresh by the router's after lapsing
pub lapsed_fresh : (now stamp : ℕ) (r : Router) → now - stamp ≤ r.settings.window
    → (lapsed_at now r).clock - stamp ≤ (lapsed_at now r).settings.window
lapsed_fresh now stamp r fresh = rw (lapsed_clock now r, lapsed_settings now r) fresh

module _ {count : ℕ} {mill visitors : List ℕ} {w : World} where
  -- what the router r₀ sends in passing (a beacon of its own, a failure, a terminating message, or nothing) keeps the invariant
  pub plain_sent : {L : Log count} {N : ℕ → Node} {r : Router} {M : List Packet} → Inv mill visitors w L N r M → (r₀ : Router)
      → r₀.settings ≡ w.router.settings → (ps : List Packet) → Plain r₀ ps → Inv mill visitors w L N r (ps ++ M)
  plain_sent h r₀ e ps (nothing sends) = rw sends h
  plain_sent h r₀ e ps (beacons now serial sends) =
      rw sends
      (inv_sent h (to_everyone (beacon_of r₀.settings now.ticks serial.number)) (not_asked (λ n. n))
      (record { now = now; serial = serial; is = rw e }))
  plain_sent h r₀ e ps (tells address m ending sends) =
      rw sends (inv_sent h (to_node address m) (not_asked (λ n. n)) (inl ending))

  -- the success of a session that was opened keeps it
  pub success_sent : {L : Log count} {N : ℕ → Node} {r : Router} {M : List Packet} → Inv mill visitors w L N r M → {s : Settings}
      → s ≡ w.router.settings
      → (a : List ℕ) (x : Session) → L.opened a x.stamp x.key → Inv mill visitors w L N r (to_node a (success_for s a x) ∷ M)
  success_sent h {s} e a x o =
      inv_sent h (to_node a (success_for s a x)) (not_asked (λ n. n)) (inr (record { session = x; is = rw e; opened = o }))

  module _ {L : Log count} {N : ℕ → Node} {q : Router} {M : List Packet} (h : Inv mill visitors w L N q M) where
    -- a fresh stamp that is above the last of an address's place is above every session that was opened for that address
    pub fresh_under : (stamp : ℕ) → q.clock - stamp ≤ q.settings.window → (from : List ℕ)
        → ((a : ℕ) → Found q from a → (place_of a q).last < stamp) → Under L from stamp
    fresh_under stamp fresh from below s k o = go (h.kept from s k o)
      where
        go : Kept q from s → s < stamp
        go (inl x) =
            let l : (place_of x.place q).last < stamp = below x.place x.found in
            let last : s ≤ (place_of x.place q).last = x.last in
            omega arith
        go (inr x) = omega arith

  module _ {L : Log count} {N : ℕ → Node} {q : Router} {M : List Packet} (h : Inv mill visitors w L N q M) (j : ℕ) where
    -- place j
    abbrev here : Place
    here = place_of j q

    -- the invariant holds where the attempt or the session of a place ends
    pub good_lessened : here.taken ≡ true → (x : Place) → Lessened here x → Inv mill visitors w L N (with_place j x q) M
    good_lessened t x l =
        inv_place h j x (taken_within q j t) l.taken (apart_alone q h.apart j t x l.address)
        (λ _. (l.address, rw l.last (omega arith))) (lessened_fine here x l (h.places j t))

    -- a request of node i comes into its place
    module _ (i : Member count) (m : List ℕ) (v : RequestValues) (ask : Ask w M i.number m v)
        (fresh : q.clock - v.stamp ≤ q.settings.window) where
      -- its address
      abbrev from : List ℕ
      from = address_of w i

      -- an attempt with its stamp and its check value, in a place of its node's address, is fine
      new_attempt_fine : (x : Place) → from ≡ x.address → v.stamp ≡ x.attempt.stamp → v.check ≡ x.attempt.check
          → x.attempt.stamp ≤ x.last → ((a : ℕ) → Found q from a → (place_of a q).last < v.stamp)
          → AttemptFine w L M x
      new_attempt_fine x its stamped checked last below =
          record {
            last = last;
            tried = record {
              key = _;
              source = record { node = i; its = its; asking = record { m = m; v = v; ask = ask; stamped = stamped; keyed = refl } };
              checked = checked;
            };
            under = rw (← its, ← stamped) (fresh_under h v.stamp fresh from below);
          }

      -- its node's place with the request is fine
      attempted_fine : Found q from j → here.last < v.stamp → PlaceFine w L M (attempted v here)
      unfolding attempted
      attempted_fine f l =
          record {
            waits = λ _.
                new_attempt_fine (attempted v here) (sym f.its) refl refl (omega arith)
                (λ a g. rw (h.apart a j g.taken f.taken (g.its ∙ sym f.its)) l);
            held = (h.places j f.taken).held;
          }

      -- a free place with it is fine
      placed_fine : ((a : ℕ) → Found q from a → ⊥) → PlaceFine w L M (placed from v)
      unfolding placed
      placed_fine none =
          record {
            waits = λ _. new_attempt_fine (placed from v) refl refl refl (omega arith) (λ a f. absurd (none a f));
            held = never;
          }

      -- the invariant holds with the request in its place
      pub good_took : (r' : Router) → Took q r' from v j → Inv mill visitors w L N r' M
      unfolding attempted placed
      good_took r' (repeats e) = rw e h
      good_took r' (renews f l e) =
          rw e
          (inv_place h j (attempted v here) (taken_within q j f.taken) refl (apart_alone q h.apart j f.taken (attempted v here) refl)
          (λ _. (refl, omega arith)) (attempted_fine f l))
      good_took r' (places b t none e) =
          rw e
          (inv_place h j (placed from v) (rw h.size b) refl (λ a n taken its. none a (record { taken = taken; its = its })) (λ t'. not_both t' t) (placed_fine none))
