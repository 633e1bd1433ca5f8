-- The past of a run: what happened at some event of it, and that what was sent stays sent.
use Rattle.std.specs.Prelude.{ℕ, refl, ◌⊎◌, List, [], ◌∷◌, ◌++◌}
use Rattle.std.proofs.Common.{ap, inl, inr, ⊎_elim}
use mathlib.Core.List.Memᴰ
use Rattle.misp.specs.Request.{RequestValues}
use Rattle.turn.specs.Outcome.{Step as RouterStep}
use Rattle.node.specs.State.{Step as NodeStep}
use Rattle.server.specs.Login.{Step as ServerStep}
use Rattle.link.specs.World.{Member, World, Event, beacon, close, leave, to_heard, to_succeeded, to_failed, to_left, to_requested, to_closed, to_logged_in, to_replied, wrote_router, wrote_node, wrote_server, after_node, after_router, after_server, step}
use Rattle.link.specs.Opened.{Earlier, OpenedAt, Arrived, Accepted}
use Rattle.link.specs.Inv.{Log, Grows, More}

-- what was sent stays sent: after a step of a node
node_grows : (w : World) (i : ℕ) (s : NodeStep) → More w.sent (after_node w i s).sent
unfolding after_node
node_grows w i s p = Memᴰ.append_right (wrote_node i s)

-- of the router
router_grows : (w : World) (s : RouterStep) → More w.sent (after_router w s).sent
unfolding after_router
router_grows w s p = Memᴰ.append_right (wrote_router s)

-- of the server
server_grows : (w : World) (s : ServerStep) → More w.sent (after_server w s).sent
unfolding after_server
server_grows w s p = Memᴰ.append_right (wrote_server s)

module _ {count : ℕ} where
  -- after any event what was sent is still sent
  pub step_grows : (w : World) (e : Event count) → More w.sent (step w e).sent
  unfolding step
  step_grows w (beacon now serial out) = router_grows w _
  step_grows w (close now to out) = router_grows w _
  step_grows w (leave i now out) = node_grows w _ _
  step_grows w (to_heard i now seed x out) = node_grows w _ _
  step_grows w (to_succeeded i now x) = node_grows w _ _
  step_grows w (to_failed i now x) = node_grows w _ _
  step_grows w (to_left i now x) = node_grows w _ _
  step_grows w (to_requested i now x out) = router_grows w _
  step_grows w (to_closed i now x) = router_grows w _
  step_grows w (to_logged_in mill visitors x out) = server_grows w _
  step_grows w (to_replied now x out) = router_grows w _

  -- it happened at some event of the run: `Earlier`, by recursion on the run
  abbrev pub Happened : (List (Event count) → Event count → Type 0) → List (Event count) → Type 0
  Happened Q [] = ⊥
  Happened Q (e ∷ es) = Q es e ⊎ Happened Q es

  -- both say the same: what is in the past happened at some event
  pub happened_earlier : (Q : List (Event count) → Event count → Type 0) (es : List (Event count)) → Happened Q es → Earlier es Q
  happened_earlier Q [] h = absurd h
  happened_earlier Q (e ∷ es) (inl h) = record { later = []; event = e; before = es; place = refl; here = h }
  happened_earlier Q (e ∷ es) (inr h) =
      let x = happened_earlier Q es h in
      record { later = e ∷ x.later; event = x.event; before = x.before; place = ap (λ (l : List (Event count)). e ∷ l) x.place; here = x.here }

  -- what follows of an event follows of the past
  pub happened_map : (Q Q' : List (Event count) → Event count → Type 0) → ((before : List (Event count)) (e : Event count) → Q before e → Q' before e)
      → (es : List (Event count)) → Happened Q es → Happened Q' es
  happened_map Q Q' f [] h = h
  happened_map Q Q' f (e ∷ es) h = ⊎_elim (λ q. inl (f es e q)) (λ o. inr (happened_map Q Q' f es o)) h

  -- an event of a run is in the past of what comes after it
  pub happened_at : (Q : List (Event count) → Event count → Type 0) (later : List (Event count)) (e : Event count) (before : List (Event count))
      → Q before e → Happened Q (later ++ e ∷ before)
  happened_at Q [] e before q = inl q
  happened_at Q (x ∷ later) e before q = inr (happened_at Q later e before q)

  module _ (w : World) where
    -- the server accepted an access request, before which its request had arrived
    abbrev pub AcceptedAfter : Member count → List ℕ → RequestValues → List ℕ → List (Event count) → Event count → Type 0
    AcceptedAfter i m v x before e = Accepted w x v.check before e × Happened (Arrived w i m v x) before

    -- what was opened, had arrived and was accepted in a run
    abbrev pub past_of : List (Event count) → Log count
    past_of es =
        record {
          opened = λ a s k. Happened (OpenedAt w a s k) es;
          arrived = λ i m v x. Happened (Arrived w i m v x) es;
          accepted = λ i m v x. Happened (AcceptedAfter i m v x) es;
        }

    -- one event more, and nothing that was is forgotten
    pub past_grows : (es : List (Event count)) (e : Event count) → Grows (past_of es) (past_of (e ∷ es))
    past_grows es e = record { opened = λ _ _ _ x. inr x; arrived = λ _ _ _ _ x. inr x; accepted = λ _ _ _ _ x. inr x }
