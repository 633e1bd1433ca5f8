-- The calls of a node: nothing new comes in, it asks, it enters, or it leaves.
use Rattle.std.specs.Prelude.{ℕ, ◌≡◌, refl, List, [], ◌∷◌, Ok}
use Rattle.std.proofs.Math.Bool.{true}
use borrow.Author.Tests.{eqb-true}
use Rattle.refusal.specs.Step.{done, silent}
use Rattle.octets.proofs.ChoiceLaws.{never, pick_all, both_left, both_right}
use Rattle.clock.specs.Clock.{is_over}
use Rattle.held.specs.Held.{held_bytes}
use Rattle.message.specs.Writing.{is_name}
use Rattle.beacons.specs.Beacon.{BeaconValues, read_beacon, beacon_told}
use Rattle.misp.specs.Success.{SuccessValues, read_success, success_told}
use Rattle.checked.specs.Checked.{terminating_of}
use Rattle.node.specs.declared.Session.{Session}
use Rattle.node.specs.declared.Node.{Node}
use Rattle.node.specs.State.{Step, sends, no_waiting, no_session, session_at, lapsed_at, with_waiting, with_session}
use Rattle.hearing.specs.Hear.{is_above, request_for, waits_for, heard}
use Rattle.node.specs.Answers.{awaits_answer, opened_node, succeeded, failed}
use Rattle.leaving.specs.Leave.{leaving, left}
use Rattle.theorems.specs.Alike.{written_is}
use Rattle.theorems.specs.NodeEffects as effects
use Rattle.theorems.specs.NodeEffects.{Call, Changes, Effect, effect}
use Rattle.link.specs.World.{Clock, Seed, Member, to_router, Event, leave, to_heard, to_succeeded, to_failed, to_left, wrote_node}
use Rattle.link.specs.Can.{Rested, Asked, Entered, NodeCan, rests, leaves, asks, enters}
use Rattle.link.specs.WrittenLaws.{terminating_codes}

module _ {count : ℕ} (i : Member count) (n : Node) (now : Clock) where
  -- what the event can do to the node, where the node's step is s
  abbrev Can : Event count → Step → Type 0
  Can e s = NodeCan i n s.outcome.state e (wrote_node i.number s)

  -- the node with what has lapsed gone
  abbrev q : Node
  q = lapsed_at now.ticks n

  -- nothing new stands in a node that is as it was
  same : Rested n n
  same = record { settings = refl; used = refl; waiting = λ _. refl; session = λ _. refl }

  -- a session that is open after lapsing was open before
  lapsed_session : q.session.live ≡ true → q.session ≡ n.session
  unfolding lapsed_at session_at
  lapsed_session =
      pick_all (λ (s : Session). s.live ≡ true → s ≡ n.session)
      (is_over now.ticks n.session.since n.session.lifetime n.settings.unit) no_session n.session
      (λ _. never) (λ _ _. refl)

  -- nothing new stands in a node after lapsing
  lapsed : Rested n q
  unfolding lapsed_at
  lapsed = record { settings = refl; used = refl; waiting = λ _. refl; session = lapsed_session }

  -- nor where its waiting ended
  waits_no_more : Rested n (with_waiting no_waiting q)
  unfolding lapsed_at with_waiting
  waits_no_more = record { settings = refl; used = refl; waiting = never; session = lapsed_session }

  -- nor where its session did
  open_no_more : Rested n (with_session no_session q)
  unfolding lapsed_at with_session
  open_no_more = record { settings = refl; used = refl; waiting = λ _. refl; session = never }

  -- a message of the node went out
  sent : (node : Node) (m out : List ℕ) → node.settings ≡ n.settings
      → wrote_node i.number (sends node m out) ≡ to_router i.number n.settings.router m ∷ []
  sent node m out e = rw (e, written_is m out)

  -- the answer to a beacon is what `Asked` says
  asked : (seed : Seed) (out : List ℕ) (stamp : ℕ) → is_above stamp q.used ≡ true → is_name (held_bytes q.settings.account) ≡ true
      → let s = sends (waits_for q seed.bytes stamp) (request_for q seed.bytes stamp) out in
      Asked i n s.outcome.state seed stamp (wrote_node i.number s)
  unfolding lapsed_at waits_for request_for
  asked seed out stamp above named = record {
    above = above;
    named = named;
    settings = refl;
    used = refl;
    waits = refl;
    keyed = refl;
    session = lapsed_session;
    sends = sent (waits_for q seed.bytes stamp) (request_for q seed.bytes stamp) out refl;
  }

  -- a success with the stamp that it waits with opens as `Entered` says
  entered : (v : SuccessValues) → awaits_answer q v.stamp ≡ true → Entered n (opened_node q v.lifetime) v.stamp
  unfolding lapsed_at awaits_answer opened_node with_session with_waiting
  entered v a = record {
    settings = refl;
    used = refl;
    was_waiting = both_left n.waiting.live _ a;
    stamped = eqb-true v.stamp n.waiting.stamp (both_right n.waiting.live _ a);
    waits_no_more = refl;
    same_stamp = refl;
    same_key = refl;
  }

  -- what a call c can do as the event e, where the event allows what a beacon's answer and an opening come to
  module _ (e : Event count) (c : Call)
      (asking : (seed m out : List ℕ) (v : BeaconValues) → c ≡ effects.beacon now.ticks seed m out → beacon_told m (read_beacon m) ≡ Ok v
      → is_above v.stamp q.used ≡ true → is_name (held_bytes q.settings.account) ≡ true
      → Can e (sends (waits_for q seed v.stamp) (request_for q seed v.stamp) out))
      (opening : (m : List ℕ) (v : SuccessValues) → c ≡ effects.success now.ticks m → success_told m (read_success m) ≡ Ok v → awaits_answer q v.stamp ≡ true
      → Can e (silent done (opened_node q v.lifetime) [])) where
    -- where the call changes the node
    changed : (s : Step) → Changes c q s now.ticks → Can e s
    changed s (effects.asks seed m out v is reads free above named done_so) = rw done_so (asking seed m out v is reads above named)
    changed s (effects.opens m v is reads awaited done_so) = rw done_so (opening m v is reads awaited)
    changed s (effects.gives_up m why is any five done_so) = rw done_so (rests waits_no_more refl)
    changed s (effects.fails m is done_so) = rw done_so (rests waits_no_more refl)
    changed s (effects.closes out is done_so) =
        let m = terminating_of q.session.key q.settings.address q.settings.router q.session.stamp in
        rw done_so (leaves open_no_more m (terminating_codes _ _ _ _) (sent (with_session no_session q) m out open_no_more.settings))
    changed s (effects.is_closed m is done_so) = rw done_so (rests open_no_more refl)

    -- in every case
    does : (s : Step) → Effect c n s now.ticks → Can e s
    does s (effects.nothing why any five done_so) = rw done_so (rests same refl)
    does s (effects.lapses l why any five done_so) = rw done_so (rests lapsed refl)
    does s (effects.changes l x) = changed s x

  -- EACH CALL
  -- what a beacon can do at a node
  pub node_heard : (seed : Seed) (m out : List ℕ) → Can (to_heard i now seed m out) (heard n now.ticks seed.bytes m out)
  node_heard seed m out =
      let c = effects.beacon now.ticks seed.bytes m out in
      does (to_heard i now seed m out) c
      (λ seed' m' out' v e reads above named.
      let s : seed' ≡ seed.bytes = cc in
      let k : m' ≡ m = cc in
      let o : out' ≡ out = cc in
      rw (s, o) (asks now seed m out v refl (rw k at reads) (asked seed out v.stamp above named)))
      (λ m' v e. never cc)
      (heard n now.ticks seed.bytes m out) (effect n c)

  -- what a success can do
  pub node_succeeded : (m : List ℕ) → Can (to_succeeded i now m) (succeeded n now.ticks m)
  node_succeeded m =
      let c = effects.success now.ticks m in
      does (to_succeeded i now m) c
      (λ seed' m' out' v e. never cc)
      (λ m' v e reads awaited. let k : m' ≡ m = cc in enters now m v refl (rw k at reads) (entered v awaited) refl)
      (succeeded n now.ticks m) (effect n c)

  -- a call that neither answers a beacon nor opens
  module _ (e : Event count) (c : Call) (no_beacon : (seed m out : List ℕ) → c ≡ effects.beacon now.ticks seed m out → ⊥)
      (no_success : (m : List ℕ) → c ≡ effects.success now.ticks m → ⊥) where
    -- it can do no more than end something, or leave
    does_else : (s : Step) → Effect c n s now.ticks → Can e s
    does_else = does e c (λ seed m out v is. absurd (no_beacon seed m out is)) (λ m v is. absurd (no_success m is))

  -- what a failure can do
  pub node_failed : (m : List ℕ) → Can (to_failed i now m) (failed n now.ticks m)
  node_failed m =
      does_else (to_failed i now m) (effects.failure now.ticks m) (λ seed m out e. never cc)
      (λ m e. never cc) (failed n now.ticks m) (effect n (effects.failure now.ticks m))

  -- what a terminating message can do that is written
  pub node_leaving : (out : List ℕ) → Can (leave i now out) (leaving n now.ticks out)
  node_leaving out =
      does_else (leave i now out) (effects.writes now.ticks out) (λ seed m out e. never cc)
      (λ m e. never cc) (leaving n now.ticks out) (effect n (effects.writes now.ticks out))

  -- what one can do that arrives
  pub node_left : (m : List ℕ) → Can (to_left i now m) (left n now.ticks m)
  node_left m =
      does_else (to_left i now m) (effects.terminating now.ticks m) (λ seed m out e. never cc)
      (λ m e. never cc) (left n now.ticks m) (effect n (effects.terminating now.ticks m))
