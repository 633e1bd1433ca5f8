-- A node answers each stamp at most once: a beacon that it answers has a stamp above all that it used before, in however long a run; so it sends one request
-- for each stamp.
use Rattle.std.specs.Prelude.{ℕ, ◌<◌, true, ◌≡◌, List, [], ◌∷◌, Ok}
use Rattle.std.proofs.Common.{ap, arith}
use Rattle.refusal.specs.Step.{done}
use Rattle.octets.proofs.ChoiceLaws.{never}
use Rattle.beacons.specs.Beacon.{BeaconValues, read_beacon, beacon_told}
use Rattle.node.specs.declared.Node.{Node}
use Rattle.node.specs.State.{Step, sends, lapsed_at, with_waiting, with_session}
use Rattle.hearing.specs.Hear.{is_above, request_for, waits_for, heard}
use Rattle.node.specs.Answers.{opened_node}
use Rattle.message.proofs.ToldLaws.{got_same}
use Rattle.theorems.specs.RefusedLaws.{not_done}
use Rattle.theorems.specs.NodeUsed.{UpTo, up_to_above}
use Rattle.theorems.specs.NodeEffects.{Call, beacon, clock_of, step_of, after, run, Changes, asks, opens, gives_up, fails, closes, is_closed, Effect, nothing, lapses, changes, effect}

-- a beacon that is answered: its fields, the request that went out, and that its stamp is above all that the node used; then it is used
pub record Answers (n : Node) (now : ℕ) (seed m out : List ℕ) (x : Step) : Type 0 where
  pub v : BeaconValues
  pub reads : beacon_told m (read_beacon m) ≡ Ok v
  pub above : is_above v.stamp n.used ≡ true
  pub wrote : x ≡ sends (waits_for (lapsed_at now n) seed v.stamp) (request_for (lapsed_at now n) seed v.stamp) out

module _ (n : Node) (now : ℕ) (seed m out : List ℕ) where
  -- the call of a beacon that arrives
  abbrev c : Call
  c = beacon now seed m out

  -- a beacon that changes the node was answered
  answered : (x : Step) → Changes c (lapsed_at now n) x now → Answers n now seed m out x
  unfolding lapsed_at
  answered x (asks seed' m' out' v is reads free above named done_so) =
      let s : seed' ≡ seed = cc in
      let k : m' ≡ m = cc in
      let o : out' ≡ out = cc in
      record { v = v; reads = rw k at reads; above = above; wrote = rw (s, o) at done_so }
  answered x (opens m' v is reads awaited done_so) = never cc
  answered x (gives_up m' why is any five done_so) = never cc
  answered x (fails m' is done_so) = never cc
  answered x (closes out' is done_so) = never cc
  answered x (is_closed m' is done_so) = never cc

  -- a beacon whose call is done was answered
  heard_answers : (heard n now seed m out).outcome.answer ≡ done → Answers n now seed m out (heard n now seed m out)
  heard_answers = go (heard n now seed m out) (effect n c)
    where
      go : (x : Step) → Effect c n x now → x.outcome.answer ≡ done → Answers n now seed m out x
      go x (nothing why any five done_so) d = absurd (not_done (rw done_so at d))
      go x (lapses l why any five done_so) d = absurd (not_done (rw done_so at d))
      go x (changes l y) d = answered x y

-- what was used stays used, whatever the call: `used` never falls
module _ (t : ℕ) where
  -- where the call changes the node
  changed_used : (c : Call) (q : Node) (x : Step) (now : ℕ) → UpTo t q.used → Changes c q x now → UpTo t x.outcome.state.used
  unfolding waits_for opened_node with_waiting with_session
  changed_used c q x now h (asks seed m out v is reads free above named done_so) =
      rw done_so (let l : t < v.stamp = up_to_above t v.stamp q.used h above in omega arith)
  changed_used c q x now h (opens m v is reads awaited done_so) = rw done_so h
  changed_used c q x now h (gives_up m why is any five done_so) = rw done_so h
  changed_used c q x now h (fails m is done_so) = rw done_so h
  changed_used c q x now h (closes out is done_so) = rw done_so h
  changed_used c q x now h (is_closed m is done_so) = rw done_so h

  -- and whatever else it does
  effect_used : (c : Call) (n : Node) (x : Step) (now : ℕ) → UpTo t n.used → Effect c n x now → UpTo t x.outcome.state.used
  unfolding lapsed_at
  effect_used c n x now h (nothing why any five done_so) = rw done_so h
  effect_used c n x now h (lapses l why any five done_so) = rw done_so h
  effect_used c n x now h (changes l y) = changed_used c (lapsed_at now n) x now h y

  -- what a node used before any calls it has used after them
  used_run : (n : Node) → UpTo t n.used → (cs : List Call) → UpTo t (run n cs).used
  used_run n h [] = h
  used_run n h (c ∷ cs) = used_run (after n c) (effect_used c n (step_of n c) (clock_of c) h (effect n c)) cs

-- the stamp of a beacon that was answered is used then
stamp_used : (n : Node) (now : ℕ) (seed m out : List ℕ) (x : Step) (a : Answers n now seed m out x) → UpTo a.v.stamp x.outcome.state.used
unfolding waits_for
stamp_used n now seed m out x a = rw (ap (λ (y : Step). y.outcome.state.used) a.wrote) (omega arith)

-- ONCE. A beacon with the fields v is answered, from any state; then any calls; then a beacon with the fields v' is answered: its stamp is higher.
pub once : (n : Node) (now : ℕ) (seed m out : List ℕ) (v : BeaconValues) → beacon_told m (read_beacon m) ≡ Ok v → (heard n now seed m out).outcome.answer ≡ done →
    (cs : List Call) → let n₂ = run (heard n now seed m out).outcome.state cs in
    (now' : ℕ) (seed' m' out' : List ℕ) (v' : BeaconValues) → beacon_told m' (read_beacon m') ≡ Ok v' → (heard n₂ now' seed' m' out').outcome.answer ≡ done
    → v.stamp < v'.stamp
once n now seed m out v reads d cs now' seed' m' out' v' reads' d' =
    let a = heard_answers n now seed m out d in
    let n₁ = (heard n now seed m out).outcome.state in
    let b = heard_answers (run n₁ cs) now' seed' m' out' d' in
    let first : v.stamp ≡ a.v.stamp = ap (λ (x : BeaconValues). x.stamp) (got_same reads a.reads) in
    let second : v'.stamp ≡ b.v.stamp = ap (λ (x : BeaconValues). x.stamp) (got_same reads' b.reads) in
    let l : a.v.stamp < b.v.stamp =
    up_to_above a.v.stamp b.v.stamp (run n₁ cs).used (used_run a.v.stamp n₁ (stamp_used n now seed m out (heard n now seed m out) a) cs) b.above in
    omega arith
