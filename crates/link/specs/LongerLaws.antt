-- A run that meets the premises, made longer by what Example does.
use Rattle.std.specs.Prelude.{ℕ, ◌≡◌, refl, take, Result, Ok, Err}
use Rattle.std.proofs.Math.Path.{ap}
use Rattle.std.proofs.Common.{inr}
use mathlib.Core.List.{List, [], ◌∷◌, ◌++◌, Memᴰ}
use Rattle.refusal.specs.declared.Refusal.{Refusal}
use Rattle.octets.proofs.ChoiceLaws.{never}
use Rattle.node.specs.declared.Node.{Node}
use Rattle.node.specs.State.{Step as NodeStep, lapsed_at}
use Rattle.node.specs.Answers.{succeeded}
use Rattle.server.specs.Login.{logged_in}
use Rattle.theorems.specs.NodeEffects as effects
use Rattle.theorems.specs.NodeEffects.{Changes, Effect, effect}
use Rattle.link.specs.World.{Member, Packet, to_node, to_server, from_server, World, Event, to_logged_in, server_sends, wrote_node, after_node, after_server, node_of, address_of, step, run}
use Rattle.link.specs.Premises.{OfNode, Differ, Premises}
use Rattle.link.specs.Acceptable.{Calls, after_request, after_login, after_reply, after_success, BothOpen}
use Rattle.link.specs.Laws.{lawful}
use Rattle.link.specs.GoodLaws.{its_address}
use Rattle.link.specs.Theorems.{longer, sends_one, good}
use Rattle.link.specs.DifferLaws.{differ_more}

-- what the server's step sends is no request: check values still differ
differ_server : {M : List Packet} (a : Result ℕ Refusal) (out : List ℕ) → Differ M → Differ (server_sends a out ++ M)
differ_server (Ok n) out d = differ_more (from_server (take n out)) (λ n. n) d
differ_server (Err why) out d = d

-- a success that reaches a node makes it send nothing
module _ (i : ℕ) (n : Node) (now : ℕ) (z : List ℕ) where
  -- the call of a success that arrives
  abbrev c : effects.Call
  c = effects.success now z

  -- where it changes the node
  changed_silent : (s : NodeStep) → Changes c (lapsed_at now n) s now → wrote_node i s ≡ []
  changed_silent s (effects.opens m v is reads awaited done_so) = rw done_so refl
  changed_silent s (effects.gives_up m why is any five done_so) = rw done_so refl
  changed_silent s (effects.asks seed m out v is reads free above named done_so) = never cc
  changed_silent s (effects.fails m is done_so) = never cc
  changed_silent s (effects.closes out is done_so) = never cc
  changed_silent s (effects.is_closed m is done_so) = never cc

  -- so it sends nothing in every case
  success_silent : wrote_node i (succeeded n now z) ≡ []
  success_silent = go (succeeded n now z) (effect n c)
    where
      go : (s : NodeStep) → Effect c n s now → wrote_node i s ≡ []
      go s (effects.nothing why any five done_so) = rw done_so refl
      go s (effects.lapses l why any five done_so) = rw done_so refl
      go s (effects.changes l x) = changed_silent s x

module _ {count : ℕ} (mill visitors : List ℕ) (w : World) where
  -- a run that meets the premises
  abbrev Meets : List (Event count) → Type 0
  Meets = Premises count mill visitors w

  -- an access request reaches the server again
  pub meets_again : {es : List (Event count)} → Meets es → (x out : List ℕ) → Memᴰ (to_server x) (run w es).sent → Meets (to_logged_in mill visitors x out ∷ es)
  unfolding run step after_server
  meets_again {es} p x out came =
      let s = logged_in mill visitors (run w es).router.settings.ipv4 x out in
      longer p (to_logged_in mill visitors x out) (refl, refl) came (differ_server s.outcome s.out p.checks_differ)

  -- the four messages of an acceptable request
  module _ {es : List (Event count)} (p : Meets es) (i : Member count) (request : List ℕ) (c : Calls) (stamp : ℕ) (own : OfNode (run w es) i request)
      (b : BothOpen i request c es mill visitors w stamp) where
    -- with the first of them the run meets the premises
    meets_request : Meets (after_request i request c es)
    meets_request = sends_one p _ tt own (to_server b.access) (λ n. n) b.asked

    -- with two
    meets_login : Meets (after_login i request c es mill visitors b.access)
    meets_login =
        sends_one meets_request _ (refl, refl) (rw b.asked (Memᴰ.head refl)) (from_server b.answer) (λ n. n) b.answered

    -- with three
    meets_reply : Meets (after_reply i request c es mill visitors b.access b.answer)
    meets_reply =
        sends_one meets_login _ tt (rw b.answered (Memᴰ.head refl)) (to_node (address_of w i) b.success) (λ n. n) b.granted

    -- the success makes the node send nothing
    silent : (run w (after_success i request c es mill visitors b.access b.answer b.success)).sent ≡ (run w (after_reply i request c es mill visitors b.access b.answer)).sent
    unfolding run step after_node
    silent =
        ap (λ (ps : List Packet). ps ++ (run w (after_reply i request c es mill visitors b.access b.answer)).sent)
        (success_silent i.number (node_of (run w (after_reply i request c es mill visitors b.access b.answer)) i) c.success_now.ticks b.success)

    -- the node's address is the one that setup gave it
    address_same : address_of (run w (after_reply i request c es mill visitors b.access b.answer)) i ≡ address_of w i
    address_same = its_address (good lawful mill visitors w _ meets_reply) i

    -- the run with all four meets the premises
    pub meets_success : Meets (after_success i request c es mill visitors b.access b.answer b.success)
    meets_success = longer meets_reply _ tt (inr (rw (b.granted, address_same) (Memᴰ.head refl))) (rw silent meets_reply.checks_differ)
