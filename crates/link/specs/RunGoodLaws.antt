-- The invariant holds after every run, and each session that a run opens rests on the server's acceptance.
use Rattle.std.specs.Prelude.{ℕ, ◌≡◌}
use Rattle.std.proofs.Math.Path.{refl}
use mathlib.Core.List.Memᴰ
use mathlib.Core.List.{List, [], ◌∷◌, ◌++◌}
use Rattle.octets.proofs.ChoiceLaws.{not_both}
use Rattle.places.specs.declared.state.Router.{Router}
use Rattle.node.specs.declared.Node.{Node}
use Rattle.link.specs.World.{Member, Packet, World, Event, beacon, close, leave, to_heard, to_succeeded, to_failed, to_left, to_requested, to_closed, to_logged_in, to_replied, after_node, after_router, after_server, changed, node_of, address_of, step, run}
use Rattle.link.specs.Premises.{Lent, WasSent, Always, Differ, Premises}
use Rattle.link.specs.Can.{NodeCan, Lawful}
use Rattle.link.specs.MadeLaws.{node_fresh, router_fresh}
use Rattle.link.specs.DifferLaws.{differ_fewer}
use Rattle.link.specs.HoldsLaws.{opens_none}
use Rattle.link.specs.Inv.{Inv}
use Rattle.link.specs.Past.{step_grows, past_of}
use Rattle.link.specs.GoodLaws.{GoodAt}
use Rattle.link.specs.NodeGoodLaws.{good_node}
use Rattle.link.specs.RouterGoodLaws.{Founded, router_step}
use Rattle.link.specs.ServerGoodLaws.{good_server}

-- the premises of any run from the same start: of its fields only those are used that speak of the start
module _ (law : Lawful) {count : ℕ} {mill visitors : List ℕ} {w : World} {all : List (Event count)}
    (premises : Premises count mill visitors w all) where
  module _ (es : List (Event count)) (h : GoodAt mill visitors w es) (d : Differ (run w es).sent) where
    -- the router before the step
    abbrev r : Router
    r = (run w es).router

    -- a node before the step
    abbrev me : Member count → Node
    me = node_of (run w es)

    -- and its address
    abbrev address : Member count → List ℕ
    address = address_of (run w es)

    -- a step that leaves the router as it was opens no session
    same_founded : (e : Event count) → (run w (e ∷ es)).router ≡ r → Founded w es e
    same_founded e same a s k = opens_none (λ a s k x. rw same at x)

    -- what a node can do keeps the invariant, and opens none
    node_step : (e : Event count) (i : Member count) (n' : Node) (ps : List Packet) → (run w (e ∷ es)).router ≡ r → WasSent (run w es) e
        → NodeCan i (me i) n' e ps
        → Inv mill visitors w (past_of w (e ∷ es)) (changed (run w es).nodes i.number n') r (ps ++ (run w es).sent)
        × Founded w es e
    node_step e i n' ps same came can = (good_node law premises es h e i n' ps same came can, same_founded e same)

    -- EVERY STEP keeps the invariant, and what it opens rests on what `Because` says
    both : (e : Event count) → Lent mill visitors e → WasSent (run w es) e → GoodAt mill visitors w (e ∷ es) × Founded w es e
    unfolding run step after_node after_router after_server
    both (beacon now serial out) lent came =
        router_step law premises es h (beacon now serial out) _ _ refl refl came d (law.router_beaconed address r now serial out)
    both (close now to out) lent came =
        router_step law premises es h (close now to out) _ _ refl refl came d (law.router_closing address r now to out)
    both (leave i now out) lent came = node_step (leave i now out) i _ _ refl came (law.node_leaving i (me i) now out)
    both (to_heard i now seed m out) lent came =
        node_step (to_heard i now seed m out) i _ _ refl came (law.node_heard i (me i) now seed m out)
    both (to_succeeded i now m) lent came = node_step (to_succeeded i now m) i _ _ refl came (law.node_succeeded i (me i) now m)
    both (to_failed i now m) lent came = node_step (to_failed i now m) i _ _ refl came (law.node_failed i (me i) now m)
    both (to_left i now m) lent came = node_step (to_left i now m) i _ _ refl came (law.node_left i (me i) now m)
    both (to_requested i now m out) lent came =
        router_step law premises es h (to_requested i now m out) _ _ refl refl came d (law.router_requested address r now i m out)
    both (to_closed i now m) lent came =
        router_step law premises es h (to_closed i now m) _ _ refl refl came d (law.router_closed address r now i m)
    both (to_replied now m out) lent came =
        router_step law premises es h (to_replied now m out) _ _ refl refl came d (law.router_replied address r now m out)
    both (to_logged_in mill' visitors' m out) lent came = (
      rw (lent.0, lent.1) (good_server law es h m out _ refl refl came (law.server_logged_in mill visitors r.settings.ipv4 m out)),
      same_founded (to_logged_in mill' visitors' m out) refl,
    )

    -- every step keeps the invariant
    good_step : (e : Event count) → Lent mill visitors e → WasSent (run w es) e → GoodAt mill visitors w (e ∷ es)
    good_step e lent came = (both e lent came).0

    -- each session that a step opens rests on what `Because` says
    pub step_founded : (e : Event count) → Lent mill visitors e → WasSent (run w es) e → Founded w es e
    step_founded e lent came = (both e lent came).1

  -- THE START: the invariant holds
  good_start : GoodAt {count = count} mill visitors w []
  unfolding run
  good_start =
      let b = premises.none_restarted in
      let fresh = router_fresh w.router b.router in
      record {
        router_settings = refl;
        size = fresh.size;
        nodes = λ i l.
            let f = node_fresh (w.nodes i) (b.nodes (record { number = i; there = l })) in
            record {
              settings = refl;
              used = λ m v a. absurd (Memᴰ.not-nil (rw b.sent at a.was));
              waits = λ e. not_both e f.not_waiting;
              held = λ e. not_both e f.not_open;
            };
        places = λ j t. not_both t (fresh.none_taken j);
        apart = λ a j t. not_both t (fresh.none_taken a);
        msgs = λ p m. absurd (Memᴰ.not-nil (rw b.sent at m));
        once = λ i m m' v v' a. absurd (Memᴰ.not-nil (rw b.sent at a.was));
        opened = λ a s k o. absurd o;
        kept = λ a s k o. absurd o;
      }

  -- EVERY RUN that meets the premises: the invariant holds after it
  pub good_run : (es : List (Event count)) → Always (λ _. Lent mill visitors) w es → Always WasSent w es → Differ (run w es).sent
      → GoodAt mill visitors w es
  unfolding run step
  good_run [] lent came d = good_start
  good_run (e ∷ es) lent came d =
      let d' = differ_fewer (step_grows (run w es) e) d in
      good_step es (good_run es lent.1 came.1 d') d' e lent.0 came.0
