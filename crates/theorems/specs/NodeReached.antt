-- What holds in every state that a node reaches from setup, by any calls with any arguments, one after the other: the settings are those of setup, a node
-- that waits does so on the highest stamp that it used, it is never open and waiting at once, and its session has a stamp that it used and has not lapsed.
use Rattle.std.specs.Prelude.{ℕ, ◌-◌, ◌*◌, ◌≤◌, ◌≡◌, refl, List, [], ◌∷◌, ◌==◌, Option, Result, Ok, Some}
use Rattle.std.proofs.Math.Bool.{true, false}
use Rattle.std.proofs.Common.{subst, arith}
use borrow.Author.Tests.{ltb-false}
use Rattle.octets.proofs.ChoiceLaws.{never, not_both, pick_all, both_left, either_false}
use Rattle.refusal.specs.declared.Refusal.{Refusal}
use Rattle.refusal.proofs.StepLaws.{one_value}
use Rattle.clock.specs.Clock.{is_over}
use Rattle.misp.specs.Success.{SuccessValues}
use Rattle.node.specs.declared.Settings.{Settings}
use Rattle.node.specs.declared.Session.{Session}
use Rattle.node.specs.declared.Node.{Node}
use Rattle.node.specs.State.{Step, no_waiting, no_session, session_at, lapsed_at, with_waiting, with_session, fresh_node, settings_of, settings_in_range, set_up_node}
use Rattle.hearing.specs.Hear.{engaged, waits_for}
use Rattle.node.specs.Answers.{awaits_answer, opened_node}
use Rattle.theorems.specs.NodeUsed.{UpTo}
use Rattle.theorems.specs.NodeEffects.{Call, clock_of, step_of, after, run, Changes, asks, opens, gives_up, fails, closes, is_closed, Effect, nothing, lapses, changes, effect}

-- What holds, s being the settings that setup made.
pub record NodeHolds (s : Settings) (n : Node) : Type 0 where
  -- settings never change
  pub settings : n.settings ≡ s
  -- a waiting node's stamp is the highest that it used
  pub waiting : n.waiting.live ≡ true → n.used ≡ Some n.waiting.stamp
  -- it is never both open and waiting
  pub apart : n.waiting.live ≡ true → n.session.live ≡ false
  -- an open node's stamp is at most the highest that it used; its session began by the clock, and has not lapsed
  pub stamp : n.session.live ≡ true → UpTo n.session.stamp n.used
  pub since : n.session.live ≡ true → n.session.since ≤ n.clock
  pub lasts : n.session.live ≡ true → n.clock - n.session.since ≤ n.session.lifetime * n.settings.unit

-- the highest stamp used is not above all that was used
up_to_itself : (stamp : ℕ) (u : Option ℕ) → u ≡ Some stamp → UpTo stamp u
up_to_itself stamp u e = rw e (omega arith)

module _ (s : Settings) where
  -- it holds of a node that setup made
  fresh_holds : NodeHolds s (fresh_node s)
  fresh_holds = record { settings = refl; waiting = never; apart = never; stamp = never; since = never; lasts = never }

  -- the changes that calls make: each keeps what holds
  module _ (n : Node) (h : NodeHolds s n) where
    -- the clock is stored, and what has lapsed goes
    lapsed_holds : (now : ℕ) → n.clock ≤ now → NodeHolds s (lapsed_at now n)
    unfolding lapsed_at session_at is_over
    lapsed_holds now c =
        pick_all
        (λ (x : Session). NodeHolds s (record { settings = n.settings; clock = now; used = n.used; waiting = n.waiting; session = x }))
        (is_over now n.session.since n.session.lifetime n.settings.unit) no_session n.session
        (λ _. record { settings = h.settings; waiting = h.waiting; apart = λ _. refl; stamp = never; since = never; lasts = never })
        (λ f. record {
          settings = h.settings;
          waiting = h.waiting;
          apart = h.apart;
          stamp = h.stamp;
          since = λ e. (let x : n.session.since ≤ n.clock = h.since e in omega arith);
          lasts = λ _. ltb-false (n.session.lifetime * n.settings.unit) (now - n.session.since) f;
        })

    -- waiting ends
    ended_holds : NodeHolds s (with_waiting no_waiting n)
    unfolding with_waiting
    ended_holds = record { settings = h.settings; waiting = never; apart = never; stamp = h.stamp; since = h.since; lasts = h.lasts }

    -- the session ends
    closed_holds : NodeHolds s (with_session no_session n)
    unfolding with_session
    closed_holds = record { settings = h.settings; waiting = h.waiting; apart = λ _. refl; stamp = never; since = never; lasts = never }

    -- a success opens
    opened_holds : (v : SuccessValues) → awaits_answer n v.stamp ≡ true → NodeHolds s (opened_node n v.lifetime)
    unfolding opened_node with_session with_waiting awaits_answer
    opened_holds v a =
        let w : n.waiting.live ≡ true = both_left n.waiting.live (v.stamp == n.waiting.stamp) a in
        record {
          settings = h.settings;
          waiting = never;
          apart = never;
          stamp = λ _. up_to_itself n.waiting.stamp n.used (h.waiting w);
          since = λ _. omega arith;
          lasts = λ _. omega arith;
        }

    -- a beacon is answered
    asked_holds : (seed : List ℕ) (stamp : ℕ) → engaged n stamp ≡ false → NodeHolds s (waits_for n seed stamp)
    unfolding waits_for engaged
    asked_holds seed stamp g =
        let closed : n.session.live ≡ false = (either_false n.session.live _ g).0 in
        record {
          settings = h.settings;
          waiting = λ _. refl;
          apart = λ _. closed;
          stamp = λ e. not_both e closed;
          since = h.since;
          lasts = h.lasts;
        }

  -- ONE CALL: one that changes the node
  changed_holds : (c : Call) (q : Node) (x : Step) (now : ℕ) → NodeHolds s q → Changes c q x now → NodeHolds s x.outcome.state
  changed_holds c q x now h (asks seed m out v is reads free above named done) = rw done (asked_holds q h seed v.stamp free)
  changed_holds c q x now h (opens m v is reads awaited done) = rw done (opened_holds q h v awaited)
  changed_holds c q x now h (gives_up m why is any five done) = rw done (ended_holds q h)
  changed_holds c q x now h (fails m is done) = rw done (ended_holds q h)
  changed_holds c q x now h (closes out is done) = rw done (closed_holds q h)
  changed_holds c q x now h (is_closed m is done) = rw done (closed_holds q h)

  -- any call
  effect_holds : (c : Call) (n : Node) (x : Step) (now : ℕ) → NodeHolds s n → Effect c n x now → NodeHolds s x.outcome.state
  effect_holds c n x now h (nothing why any five done) = rw done h
  effect_holds c n x now h (lapses l why any five done) = rw done (lapsed_holds n h now l)
  effect_holds c n x now h (changes l y) = changed_holds c (lapsed_at now n) x now (lapsed_holds n h now l) y

  -- what holds before a call holds after it
  after_holds : (n : Node) → NodeHolds s n → (c : Call) → NodeHolds s (after n c)
  after_holds n h c = effect_holds c n (step_of n c) (clock_of c) h (effect n c)

  -- and after any calls
  run_holds : (n : Node) → NodeHolds s n → (cs : List Call) → NodeHolds s (run n cs)
  run_holds n h [] = h
  run_holds n h (c ∷ cs) = run_holds (after n c) (after_holds n h c) cs

-- EVERY STATE REACHED: of a fresh node with any settings, in their ranges or not, after any calls
pub reached_fresh : (s : Settings) (cs : List Call) → NodeHolds s (run (fresh_node s) cs)
reached_fresh s cs = run_holds s (fresh_node s) (fresh_holds s) cs

-- .. so of a node that setup made of any arguments, after any calls
pub reached : (u p : ℕ) (password account : List ℕ) (kind network : ℕ) (address router : List ℕ) (cs : List Call)
    → (n : Node) → set_up_node u p password account kind network address router ≡ Ok n → NodeHolds n.settings (run n cs)
unfolding set_up_node
reached u p password account kind network address router cs n =
    pick_all (λ (x : Result Node Refusal). x ≡ Ok n → NodeHolds n.settings (run n cs)) (settings_in_range u p password account kind network) _ _
    (λ _ e.
    let s = settings_of u p password account kind network address router in
    subst (λ (x : Node). NodeHolds x.settings (run x cs)) (one_value e) (reached_fresh s cs))
    (λ _ e. never cc)
