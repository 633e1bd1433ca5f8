-- What an event can do to the router keeps the invariant; and a session that it added rests on the server's acceptance.
use Rattle.std.specs.Prelude.{ℕ, ◌≤◌, ◌<◌, ◌≡◌, refl, ◌⊎◌, List, ◌∷◌, ◌++◌}
use Rattle.std.proofs.Common.{sym, subst, ◌∙◌, inl, inr, ⊎_elim, arith}
use Rattle.octets.proofs.ChoiceLaws.{never}
use Rattle.places.specs.declared.place.Place.{Place}
use Rattle.places.specs.declared.state.Router.{Router}
use Rattle.places.specs.State.{lapsed_at}
use Rattle.turn.specs.Outcome.{place_of, with_place}
use Rattle.turn.specs.Writes.{asked_of}
use Rattle.settling.specs.Reply.{settled, opened_by}
use Rattle.theorems.specs.RouterPlaceLaws.{taken_within, apart_alone, with_here}
use Rattle.link.specs.World.{Packet, to_server, World, Event, address_of, run}
use Rattle.link.specs.Premises.{WasSent, Differ, Premises}
use Rattle.link.specs.Opened.{HeldIn, Opens, OpenedAt, Arrived}
use Rattle.link.specs.Can.{Opening, Forwarding, RouterCan, stays, lapses, lessens, says_again, forwards, opens, Lawful}
use Rattle.link.specs.Inv.{Log, one_more, Ask, Source, Inv, ask_more}
use Rattle.link.specs.Keeps.{not_asked, inv_sent, inv_lapse, inv_open}
use Rattle.link.specs.HoldsLaws.{AddsNone, opens_none, holds_lapsed, holds_with, adds_or_opens}
use Rattle.link.specs.Past.{past_of, past_grows}
use Rattle.link.specs.GoodLaws.{GoodAt, NotedAt, added_none, its_address, held_opened}
use Rattle.link.specs.PlaceGoodLaws.{lapsed_fresh, plain_sent, success_sent, good_lessened, good_took}
use Rattle.link.specs.GrantedLaws.{opened_live, opened_stamp, Reason, granted_reason}

module _ {count : ℕ} (w : World) where
  -- what an opening rests on, in the run before it
  abbrev pub Because : List (Event count) → List ℕ → ℕ → List ℕ → Type 0
  Because es = Reason w (past_of w es) (run w es).sent

  -- each session that the event opens after this run has such a reason
  abbrev pub Founded : List (Event count) → Event count → Type 0
  Founded es e = (a : List ℕ) (s : ℕ) (k : List ℕ) → OpenedAt w a s k es e → Because es a s k

-- the premises of any run from the same start: of its fields only those are used that speak of the start
module _ (law : Lawful) {count : ℕ} {mill visitors : List ℕ} {w : World} {all : List (Event count)}
    (premises : Premises count mill visitors w all) where
  module _ (es : List (Event count)) (h : GoodAt mill visitors w es) (e : Event count) (r' : Router) (ps : List Packet)
      (after : (run w (e ∷ es)).router ≡ r') (sent : (run w (e ∷ es)).sent ≡ ps ++ (run w es).sent) (came : WasSent (run w es) e) where
    -- the router before the event
    abbrev r : Router
    r = (run w es).router

    -- what was sent before it
    abbrev M : List Packet
    M = (run w es).sent

    -- the past with it
    abbrev past : Log count
    past = past_of w (e ∷ es)

    -- the invariant after the event
    abbrev Good : Type 0
    Good = Inv mill visitors w past (run w es).nodes r' (ps ++ M)

    -- the event is an accept that opens
    module _ (differ : Differ M) (x : Opening r r' e ps) where
      -- the router with what has lapsed gone
      abbrev q : Router
      q = lapsed_at x.now.ticks r

      -- the place of the attempt, before
      abbrev p : Place
      p = place_of x.j q

      -- and after
      abbrev opened : Place
      opened = settled p (opened_by q p x.now.ticks x.v)

      -- the invariant holds where what has lapsed is gone
      at_q : Inv mill visitors w (past_of w es) (run w es).nodes q M
      at_q = inv_lapse h x.now.ticks x.clock

      -- the session that it opens rests on this
      reason : Because w es p.address p.attempt.stamp opened.session.key
      reason = granted_reason law premises at_q x.m x.reads x.granted differ (rw x.is at came)

      -- a session that the step added is this one
      added : (a : List ℕ) (s : ℕ) (k : List ℕ) → Opens r r' a s k → (a ≡ p.address) × (s ≡ p.attempt.stamp) × (k ≡ opened.session.key)
      added a s k o =
          ⊎_elim
          (λ y. absurd (o.not_before k (holds_lapsed x.now.ticks r y)))
          (λ (y : HeldIn opened a s k). (sym y.its, sym y.stamped ∙ opened_stamp q p x.now.ticks x.v, sym y.keyed))
          (holds_with x.j opened q (rw x.granted.is at o.held_after))

      -- it opens this one
      is_opened : Opens r r' p.address p.attempt.stamp opened.session.key
      is_opened =
          record {
            not_before = λ k y.
                let l : p.attempt.stamp < p.attempt.stamp = reason.under _ _ (held_opened h y) in
                omega arith;
            held_after =
                rw x.granted.is
                (record {
                  place = x.j;
                  held = rw (with_here x.j opened q (taken_within q x.j x.granted.taken))
                      (record {
                        taken = refl;
                        its = refl;
                        live = opened_live q p x.now.ticks x.v;
                        stamped = opened_stamp q p x.now.ticks x.v;
                        keyed = refl;
                      });
                });
          }

      -- which is in the past then
      new : past.opened p.address p.attempt.stamp opened.session.key
      new = inl (rw after is_opened)

      -- the opening keeps the invariant
      good_opened : Good
      good_opened =
          rw (x.granted.is, x.granted.sends)
          (success_sent with_session_law at_q.router_settings p.address opened.session held)
        where
          held : past.opened p.address opened.session.stamp opened.session.key
          held = subst (λ (s : ℕ). past.opened p.address s opened.session.key) (sym (opened_stamp q p x.now.ticks x.v)) new

          its : (a : List ℕ) (s : ℕ) (k : List ℕ) → (a ≡ p.address) × (s ≡ p.attempt.stamp) × (k ≡ opened.session.key)
              → (a ≡ p.address) × Source count w M a s k × (s ≤ p.last)
          its a s k e = (
            e.0,
            rw (e.0, e.1, e.2) reason.source,
            rw e.1 ((at_q.places x.j x.granted.taken).waits x.granted.waiting).last,
          )

          with_session_law : Inv mill visitors w past (run w es).nodes (with_place x.j opened q) M
          with_session_law =
              inv_open at_q x.j opened (taken_within q x.j x.granted.taken) refl
              (apart_alone q at_q.apart x.j x.granted.taken opened refl) (λ _. (refl, omega arith)) (past_grows w es e)
              (λ a s k o. ⊎_elim (λ (y : OpenedAt w a s k es e). inr (its a s k (added a s k (rw after at y)))) inl o)
              (record { waits = never; held = λ _. held })

    -- a step that added no session
    module _ (none : AddsNone r r') where
      -- the invariant holds with the event in the past
      quiet : NotedAt mill visitors w es e
      quiet = added_none es h e (λ a s k y. none a s k (rw after at y))

      -- so it does where what has lapsed is gone
      at_lapse : (now : ℕ) → r.clock ≤ now → Inv mill visitors w past (run w es).nodes (lapsed_at now r) M
      at_lapse now c = inv_lapse quiet now c

      -- a request that goes to the server
      module _ (x : Forwarding (address_of (run w es)) r r' e ps) where
        -- the access request
        abbrev access : List ℕ
        access = asked_of r.settings x.j (address_of (run w es) x.i) x.m x.v

        -- its node's address is the one that setup gave it
        address_same : address_of (run w es) x.i ≡ address_of w x.i
        address_same = its_address h x.i

        -- its node had sent the request
        ask : Ask w M x.i.number x.m x.v
        ask = record { was = rw (x.is, h.router_settings) at came; reads = x.reads }

        -- the invariant holds with the request in its place
        after_took : Inv mill visitors w past (run w es).nodes r' M
        after_took =
            good_took (at_lapse x.now.ticks x.clock) x.j x.i x.m x.v ask
            (lapsed_fresh x.now.ticks x.v.stamp r x.not_old) r' (rw address_same at x.took)

        -- it arrived
        arrived : Arrived w x.i x.m x.v access es e
        arrived =
            record {
              now = x.now;
              out = x.out;
              is = x.is;
              own = rw x.is at came;
              reads = x.reads;
              not_ahead = x.not_ahead;
              not_old = rw h.router_settings at x.not_old;
              asked = sent ∙ rw x.sends;
            }

        -- the access request keeps the invariant
        good_forwards : Good
        good_forwards =
            rw x.sends
            (inv_sent after_took (to_server access) (not_asked (λ n. n))
            (record {
              node = x.i;
              m = x.m;
              v = x.v;
              place = x.j;
              ask = ask_more (one_more (to_server access)) ask;
              is = rw (h.router_settings, address_same);
              arrived = inl arrived;
            }))

    -- whatever an event can do to the router keeps the invariant
    good_router : Differ M → RouterCan (address_of (run w es)) r r' e ps → Good
    good_router differ can = go can (adds_or_opens can)
      where
        go : RouterCan (address_of (run w es)) r r' e ps → AddsNone r r' ⊎ Opening r r' e ps → Good
        go c (inr x) = good_opened differ x
        go (stays is sends) (inl none) = rw (is, sends) (quiet none)
        go (lapses now c is plain) (inl none) = rw is (plain_sent (at_lapse none now.ticks c) r h.router_settings ps plain)
        go (lessens now j p c t l is plain) (inl none) =
            rw is (plain_sent (good_lessened (at_lapse none now.ticks c) j t p l) r h.router_settings ps plain)
        go (says_again now j c said is) (inl none) =
            let g = at_lapse none now.ticks c in
            let here = place_of j (lapsed_at now.ticks r) in
            rw (is, said.sends)
            (success_sent g g.router_settings here.address here.session ((g.places j said.taken).held said.live))
        go (forwards x) (inl none) = good_forwards none x
        go (opens x) (inl none) = good_opened differ x

    -- a session that the event opened at the router rests on what `Because` says
    router_founded : Differ M → RouterCan (address_of (run w es)) r r' e ps → Founded w es e
    router_founded differ can a s k o = go (adds_or_opens can)
      where
        go : AddsNone r r' ⊎ Opening r r' e ps → Because w es a s k
        go (inl none) = opens_none none (rw after at o)
        go (inr x) = let same = added differ x a s k (rw after at o) in rw (same.0, same.1, same.2) (reason differ x)

    -- whatever an event can do to the router keeps the invariant, and each session that it opens rests on what `Because` says
    pub router_step : Differ M → RouterCan (address_of (run w es)) r r' e ps → Good × Founded w es e
    router_step differ can = (good_router differ can, router_founded differ can)
