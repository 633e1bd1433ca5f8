-- How the invariant is kept: one law for each kind of change.
use Rattle.std.specs.Prelude.{ℕ, ◌≤◌, ◌<◌, Bool, true, false, ◌≡◌, refl, ◌≢◌, ◌⊎◌, List, ◌∷◌, length, ◌==◌, Some, Ok}
use Rattle.std.proofs.Common.{sym, ap, subst, ◌∙◌, inl, inr, ⊎_elim, arith, eqb-true}
use mathlib.Core.List.Memᴰ
use Rattle.std.proofs.Math.Decide.{ℕ_discrete}
use Rattle.std.proofs.lemmas.Bool.{eqb-false}
use Rattle.octets.specs.Choice.{pick}
use Rattle.misp.specs.Request.{RequestValues, read_request, request_told}
use Rattle.places.specs.declared.place.Place.{Place}
use Rattle.places.specs.declared.state.Router.{Router}
use Rattle.places.specs.State.{lapsed_at}
use Rattle.places.proofs.LapseLaws.{lapsed_settings, lapsed_length}
use Rattle.turn.specs.Outcome.{place_of, with_place}
use Rattle.node.specs.declared.Node.{Node}
use Rattle.message.proofs.ToldLaws.{got_same}
use Rattle.theorems.specs.RouterPlaceLaws.{lapsed_left, lapsed_apart, with_settings, with_length, with_here, with_other, with_apart}
use Rattle.theorems.specs.RouterKept.{Kept, lapsed_kept, with_kept}
use Rattle.theorems.specs.NodeUsed.{UpTo}
use Rattle.link.specs.World.{Packet, to_router, World, changed}
use Rattle.link.specs.Can.{Lessened}
use Rattle.link.specs.DifferLaws.{OfANode}
use Rattle.link.specs.HoldsLaws.{lapsed_lessened}
use Rattle.link.specs.Inv.{Log, Grows, one_more, each_cons, on_its_way, Ask, Own, Source, Behind, PlaceFine, NodeFine, Once, Inv, source_more, asking_more, behind_more, place_more}

-- a message that is no node's request
abbrev pub NoAsk : Packet → Type 0
NoAsk p = (i : ℕ) (router m : List ℕ) (v : RequestValues) → p ≡ to_router i router m → request_told m (read_request m) ≡ Ok v → ⊥

-- a message that no node sent is no request
pub not_asked : {p : Packet} → (OfANode p → ⊥) → NoAsk p
not_asked none i router m v e reads = none (subst OfANode (sym e) tt)

-- a past that stays as it is forgets nothing
stay : {count : ℕ} (L : Log count) → Grows L L
stay L = record { opened = λ _ _ _ o. o; arrived = λ _ _ _ _ o. o; accepted = λ _ _ _ _ o. o }

module _ {w : World} where
  -- one message more: a request among them is that message, or was there before
  ask_cases : {M : List Packet} {p : Packet} {i : ℕ} {m : List ℕ} {v : RequestValues} → Ask w (p ∷ M) i m v
      → (p ≡ on_its_way w i m) ⊎ Ask w M i m v
  ask_cases a = ⊎_elim (λ e. inl (sym e)) (λ was. inr (record { was = was; reads = a.reads })) (Memᴰ.cases_cons a.was)

  -- where that message is no request, it was there before
  ask_back : {M : List Packet} {p : Packet} → NoAsk p → {i : ℕ} {m : List ℕ} {v : RequestValues} → Ask w (p ∷ M) i m v → Ask w M i m v
  ask_back {p = p} none {i} {m} {v} a = ⊎_elim (λ e. absurd (none i w.router.settings.address m v e a.reads)) (λ b. b) (ask_cases a)

  -- a node is fine of a longer past
  node_longer : {count : ℕ} {L L' : Log count} → Grows L L' → {M : List Packet} {i : ℕ} {n : Node} → NodeFine w L M i n
      → NodeFine w L' M i n
  node_longer grows f = record { settings = f.settings; used = f.used; waits = f.waits; held = λ e. grows.opened _ _ _ (f.held e) }

  -- a node that was fine is fine with one message more where it used all that it sent with it
  node_sent : {count : ℕ} {L : Log count} {M : List Packet} {p : Packet} {i : ℕ} {n : Node}
      → ((m : List ℕ) (v : RequestValues) → Ask w (p ∷ M) i m v → UpTo v.stamp n.used)
      → NodeFine w L M i n → NodeFine w L (p ∷ M) i n
  node_sent {p = p} used f =
      record { settings = f.settings; used = used; waits = λ e. asking_more (one_more p) (f.waits e); held = f.held }

  -- one node changes: each is fine where the new one is, and the others are
  changed_fine : {count : ℕ} {L : Log count} {N : ℕ → Node} {M : List Packet} (i : ℕ) (n : Node) → NodeFine w L M i n
      → ((j : ℕ) → j < count → j ≢ i → NodeFine w L M j (N j)) → (j : ℕ) → j < count
      → NodeFine w L M j (changed N i n j)
  changed_fine {L = L} {N} {M} i n f others j b = go (j == i) refl
    where
      go : (t : Bool) → (j == i) ≡ t → NodeFine w L M j (pick t n (N j))
      go true e = rw (eqb-true j i e) f
      go false e = others j b (eqb-false j i e)

  -- what is left of a place that was fine is fine
  pub lessened_fine : {count : ℕ} {L : Log count} {M : List Packet} (p p' : Place) → Lessened p p' → PlaceFine w L M p → PlaceFine w L M p'
  lessened_fine p p' l f =
      record {
        waits = λ e. (let same = l.attempt e in
            let t = f.waits (rw same at e) in
            record {
              last = rw (same, l.last) t.last;
              tried = rw (l.address, same) t.tried;
              under = rw (l.address, same) t.under;
            });
        held = λ e. (let same = l.session e in rw (l.address, same) (f.held (rw same at e)));
      }

  -- THE PAST grows, and no session was opened
  module _ {count : ℕ} {L L' : Log count} (grows : Grows L L') (back : (a : List ℕ) (s : ℕ) (k : List ℕ) → L'.opened a s k → L.opened a s k) where
    -- the invariant holds of the longer past
    pub inv_log : {mill visitors : List ℕ} {N : ℕ → Node} {r : Router} {M : List Packet} → Inv mill visitors w L N r M
        → Inv mill visitors w L' N r M
    inv_log {mill} {visitors} {r = r} h =
        record {
          router_settings = h.router_settings;
          size = h.size;
          nodes = λ i b. node_longer grows (h.nodes i b);
          places = λ j t. place_more grows (λ _ x. x) (place_of j r) (λ s k. back _ s k) (h.places j t);
          apart = h.apart;
          msgs = λ p m. behind_more grows (λ _ x. x) mill visitors w p (h.msgs p m);
          once = h.once;
          opened = λ a s k o. h.opened a s k (back a s k o);
          kept = λ a s k o. h.kept a s k (back a s k o);
        }

  module _ {count : ℕ} {mill visitors : List ℕ} {L : Log count} {N : ℕ → Node} {r : Router} {M : List Packet}
      (h : Inv mill visitors w L N r M) where
    -- A MESSAGE is sent: the invariant holds where the nodes are fine, what must stand behind the message does, and requests are `Once` with it
    with_sent : {N' : ℕ → Node} (p : Packet) → ((i : ℕ) → i < count → NodeFine w L (p ∷ M) i (N' i))
        → Behind mill visitors w L (p ∷ M) p → Once w (p ∷ M) → Inv mill visitors w L N' r (p ∷ M)
    with_sent p nodes b once =
        record {
          router_settings = h.router_settings;
          size = h.size;
          nodes = nodes;
          places = λ j t. place_more (stay L) (one_more p) (place_of j r) (λ s k o. o) (h.places j t);
          apart = h.apart;
          msgs = each_cons (Behind mill visitors w L (p ∷ M)) b
              (λ q m. behind_more (stay L) (one_more p) mill visitors w q (h.msgs q m));
          once = once;
          opened = λ a s k o. source_more (one_more p) (h.opened a s k o);
          kept = h.kept;
        }

    -- one that is no request
    pub inv_sent : (p : Packet) → NoAsk p → Behind mill visitors w L (p ∷ M) p → Inv mill visitors w L N r (p ∷ M)
    inv_sent p none b =
        with_sent p (λ i l. node_sent (λ m v a. (h.nodes i l).used m v (ask_back none a)) (h.nodes i l)) b
        (λ i m m' v v' a a'. h.once i m m' v v' (ask_back none a) (ask_back none a'))

    -- A NODE changes: the invariant holds where the new node is fine
    pub inv_node : (i : ℕ) (n : Node) → NodeFine w L M i n → Inv mill visitors w L (changed N i n) r M
    inv_node i n f =
        record {
          router_settings = h.router_settings;
          size = h.size;
          nodes = changed_fine i n f (λ j b _. h.nodes j b);
          places = h.places;
          apart = h.apart;
          msgs = h.msgs;
          once = h.once;
          opened = h.opened;
          kept = h.kept;
        }

    -- THE ROUTER stores its clock, and what has lapsed goes
    pub inv_lapse : (now : ℕ) → r.clock ≤ now → Inv mill visitors w L N (lapsed_at now r) M
    inv_lapse now c =
        record {
          router_settings = lapsed_settings now r ∙ h.router_settings;
          size = lapsed_length now r ∙ h.size;
          nodes = h.nodes;
          places = λ j t. (let was = (lapsed_left now r j t).was in
              lessened_fine (place_of j r) (place_of j (lapsed_at now r)) (lapsed_lessened now r j t) (h.places j was));
          apart = lapsed_apart now r h.apart;
          msgs = h.msgs;
          once = h.once;
          opened = h.opened;
          kept = λ a s k o. lapsed_kept a s r now c (h.kept a s k o);
        }

    -- one place changes, and is taken after: no other has its address; if it was taken, its address stays and its last stamp does not fall
    module _ (j : ℕ) (x : Place) (within : j < length r.places) (taken : x.taken ≡ true)
        (alone : (a : ℕ) → a ≢ j → (place_of a r).taken ≡ true → (place_of a r).address ≡ x.address → ⊥)
        (rises : (place_of j r).taken ≡ true → (x.address ≡ (place_of j r).address) × ((place_of j r).last ≤ x.last)) where
      -- the invariant holds where the new place is fine, and what the longer past opened besides is of that place: of a request that was
      -- sent, and not above the place's last stamp
      pub inv_open : {L' : Log count} → Grows L L'
          → ((a : List ℕ) (s : ℕ) (k : List ℕ) → L'.opened a s k
          → L.opened a s k ⊎ ((a ≡ x.address) × Source count w M a s k × (s ≤ x.last)))
          → PlaceFine w L' M x → Inv mill visitors w L' N (with_place j x r) M
      inv_open {L'} grows back f =
          record {
            router_settings = with_settings j x r ∙ h.router_settings;
            size = with_length j x r ∙ h.size;
            nodes = λ i b. node_longer grows (h.nodes i b);
            places = λ a t. go a t (ℕ_discrete a j);
            apart = with_apart j x r within h.apart alone;
            msgs = λ p m. behind_more grows (λ _ y. y) mill visitors w p (h.msgs p m);
            once = h.once;
            opened = λ a s k o. ⊎_elim (h.opened a s k) (λ e. e.1) (back a s k o);
            kept = λ a s k o.
                ⊎_elim (λ o'. with_kept a s r j x within taken rises (h.kept a s k o')) (λ e. rw e.0 (here s e.2)) (back a s k o);
          }
        where
          here : (s : ℕ) → s ≤ x.last → Kept (with_place j x r) x.address s
          here s last =
              let o = with_here j x r within in
              inl (record { place = j; found = record { taken = rw o taken; its = rw o refl }; last = rw o last })

          go : (a : ℕ) → (place_of a (with_place j x r)).taken ≡ true → Dec (a ≡ j) → PlaceFine w L' M (place_of a (with_place j x r))
          go a t (yes e) = rw (e, with_here j x r within) f
          go a t (no n) =
              let o = with_other j x r a n in
              let was = rw o at t in
              rw o
              (place_more grows (λ _ y. y) (place_of a r)
              (λ s k y. ⊎_elim (λ z. z) (λ e. absurd (alone a n was e.0)) (back (place_of a r).address s k y))
              (h.places a was))

      -- so it does where the past stays as it is
      pub inv_place : PlaceFine w L M x → Inv mill visitors w L N (with_place j x r) M
      inv_place = inv_open (stay L) (λ _ _ _. inl)

  -- A REQUEST of node i goes out, with a stamp above all before
  module _ {M : List Packet} (i : ℕ) (m : List ℕ) (v : RequestValues) (reads : request_told m (read_request m) ≡ Ok v)
      (above : (m' : List ℕ) (v' : RequestValues) → Ask w M i m' v' → v'.stamp < v.stamp) where
    -- where this message is one of node j that is read as a request, node, bytes and fields are these
    asked_fields : {j : ℕ} {m' : List ℕ} {v' : RequestValues} → on_its_way w i m ≡ on_its_way w j m'
        → request_told m' (read_request m') ≡ Ok v' → (j ≡ i) × (m' ≡ m) × (v' ≡ v)
    asked_fields {m' = m'} {v'} e reads' = let a : m' ≡ m = cc in (cc, a, got_same (rw a at reads') reads)

    -- what its node sent before has a lower stamp
    asked_above : {j : ℕ} {a b : List ℕ} {va vb : RequestValues} → on_its_way w i m ≡ on_its_way w j a
        → request_told a (read_request a) ≡ Ok va → Ask w M j b vb → vb.stamp < va.stamp
    asked_above {b = b} {vb = vb} e reads' x = let f = asked_fields e reads' in rw f.2 (above b vb (rw f.0 at x))

    -- all that the node has sent has a stamp up to this one
    pub asked_up_to : (a : List ℕ) (va : RequestValues) → Ask w (on_its_way w i m ∷ M) i a va → UpTo va.stamp (Some v.stamp)
    asked_up_to a va x =
        ⊎_elim
        (λ e. let k : va.stamp ≡ v.stamp = ap (λ (u : RequestValues). u.stamp) (asked_fields e x.reads).2 in omega arith)
        (λ y. let l : va.stamp < v.stamp = above a va y in omega arith)
        (ask_cases x)

    module _ {count : ℕ} {mill visitors : List ℕ} {L : Log count} {N : ℕ → Node} {r : Router} (h : Inv mill visitors w L N r M) where
      -- requests of one node with one stamp still have the same bytes
      asked_once : Once w (on_its_way w i m ∷ M)
      asked_once j a b va vb x y e = go (ask_cases x) (ask_cases y)
        where
          go : (on_its_way w i m ≡ on_its_way w j a) ⊎ Ask w M j a va → (on_its_way w i m ≡ on_its_way w j b) ⊎ Ask w M j b vb → a ≡ b
          go (inl p) (inl q) = cc
          go (inl p) (inr q) = let l : vb.stamp < va.stamp = asked_above p x.reads q in absurd (omega arith)
          go (inr p) (inl q) = let l : va.stamp < vb.stamp = asked_above q y.reads p in absurd (omega arith)
          go (inr p) (inr q) = h.once j a b va vb p q e

      -- another node used all that it sent
      asked_used : (j : ℕ) → j < count → j ≢ i → (a : List ℕ) (va : RequestValues) → Ask w (on_its_way w i m ∷ M) j a va
          → UpTo va.stamp (N j).used
      asked_used j b n a va x = ⊎_elim (λ e. absurd (n (asked_fields e x.reads).0)) ((h.nodes j b).used a va) (ask_cases x)

      -- the invariant holds, with that request sent, where the node as it is then is fine
      pub inv_asks : (n : Node) → Own w i m v → NodeFine w L (on_its_way w i m ∷ M) i n
          → Inv mill visitors w L (changed N i n) r (on_its_way w i m ∷ M)
      inv_asks n own f =
          with_sent h (on_its_way w i m) (changed_fine i n f (λ j b other. node_sent (asked_used j b other) (h.nodes j b)))
          (λ v' e. rw (got_same e reads) own) asked_once
