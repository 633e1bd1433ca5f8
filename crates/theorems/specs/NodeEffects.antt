-- What each call does at a node, with any arguments: nothing (20 and 7), or the clock is stored and what has lapsed goes, and then at most one thing changes:
-- the node asks, it opens, it waits no more, or it closes.
use Rattle.std.specs.Prelude.{ℕ, ◌≤◌, Bool, true, false, ◌≡◌, List, [], ◌∷◌, length, nat_lt, ◌==◌, Ok, Err}
use Rattle.std.proofs.Math.Path.{refl}
use Rattle.std.proofs.Common.{ltb-false}
use Rattle.refusal.specs.Step.{done, silent, refused_with}
use Rattle.octets.specs.Choice.{flip}
use Rattle.octets.specs.Same.{same_bytes}
use Rattle.octets.proofs.ChoiceLaws.{pick_all, flip_false}
use Rattle.held.specs.Held.{held_bytes}
use Rattle.object.specs.declared.family.Family.TheVariants.{Misp}
use Rattle.object.specs.Family.{limit_of}
use Rattle.refusal.specs.declared.Refusal.{Refusal}
use Rattle.refusal.specs.Table.{refusal_number}
use Rattle.terms.specs.Terms.{lists}
use Rattle.message.specs.Writing.{is_name}
use Rattle.message.proofs.ToldLaws.{result_all}
use Rattle.beacons.specs.Beacon.{BeaconValues, read_beacon, beacon_told}
use Rattle.misp.specs.Success.{SuccessValues, read_success, success_told}
use Rattle.misp.specs.Terminating.{TerminatingValues, read_terminating, terminating_told}
use Rattle.misp.specs.declared.failure.Failure.{Failure}
use Rattle.misp.specs.Failure.{read_failure}
use Rattle.checked.specs.Checked.{check_for, terminating_of}
use Rattle.checked.proofs.UnderKeyLaws.{under_key_all}
use Rattle.node.specs.declared.Node.{Node}
use Rattle.node.specs.State.{Step, sends, no_waiting, no_session, lapsed_at, with_waiting, with_session}
use Rattle.hearing.specs.Hear.{engaged, is_above, request_for, waits_for, answering, heard}
use Rattle.node.specs.Answers.{awaits_answer, opened_node, after_refusal, opening_by, succeeded, ending_by, failed}
use Rattle.leaving.specs.Leave.{leaving_now, leaving, in_session, closed_by, left}
use Rattle.theorems.specs.RefusedLaws.{changes_nothing}
use Rattle.theorems.specs.LowLaws.{beacon_low, success_low, failure_low, terminating_low, low_changes}

-- a call on a node, with the clock that it is given
pub data Call : Type 0 where
  beacon : (now : ℕ) (seed m out : List ℕ) → Call
  success : (now : ℕ) (m : List ℕ) → Call
  failure : (now : ℕ) (m : List ℕ) → Call
  writes : (now : ℕ) (out : List ℕ) → Call
  terminating : (now : ℕ) (m : List ℕ) → Call

-- its clock
abbrev pub clock_of : Call → ℕ
clock_of (beacon now seed m out) = now
clock_of (success now m) = now
clock_of (failure now m) = now
clock_of (writes now out) = now
clock_of (terminating now m) = now

-- the buffer that it is lent; only an answer to a beacon and a terminating message are written
abbrev pub out_of : Call → List ℕ
out_of (beacon now seed m out) = out
out_of (success now m) = []
out_of (failure now m) = []
out_of (writes now out) = out
out_of (terminating now m) = []

-- 'A success with refusal 5 also ends waiting'
abbrev pub ends_waiting : Call → Refusal → Bool
ends_waiting (beacon now seed m out) why = false
ends_waiting (success now m) why = (refusal_number why == 5)
ends_waiting (failure now m) why = false
ends_waiting (writes now out) why = false
ends_waiting (terminating now m) why = false

-- what it hands back, and leaves in its buffer
abbrev pub step_of : Node → Call → Step
step_of n (beacon now seed m out) = heard n now seed m out
step_of n (success now m) = succeeded n now m
step_of n (failure now m) = failed n now m
step_of n (writes now out) = leaving n now out
step_of n (terminating now m) = left n now m

-- the state that a call leaves
abbrev pub after : Node → Call → Node
after n c = (step_of n c).outcome.state

-- the state after calls, the first of the list first
abbrev pub run : Node → List Call → Node
run n [] = n
run n (c ∷ cs) = run (after n c) cs

-- What the lapsed node q comes to. A beacon (fields v) is answered, a success (fields v) opens; a success with refusal 5 and a failure end waiting; a
-- terminating message that is written, or that arrives, closes.
pub data Changes (c : Call) (q : Node) (s : Step) (now : ℕ) : Type 0 where
  asks : (seed m out : List ℕ) (v : BeaconValues) → c ≡ beacon now seed m out → beacon_told m (read_beacon m) ≡ Ok v → engaged q v.stamp ≡ false
      → is_above v.stamp q.used ≡ true → is_name (held_bytes q.settings.account) ≡ true
      → s ≡ sends (waits_for q seed v.stamp) (request_for q seed v.stamp) out → Changes c q s now
  opens : (m : List ℕ) (v : SuccessValues) → c ≡ success now m → success_told m (read_success m) ≡ Ok v → awaits_answer q v.stamp ≡ true
      → s ≡ silent done (opened_node q v.lifetime) [] → Changes c q s now
  gives_up : (m : List ℕ) (why : Refusal) → c ≡ success now m → changes_nothing why ≡ false → ends_waiting c why ≡ true → s ≡ refused_with why (with_waiting no_waiting q) [] → Changes c q s now
  fails : (m : List ℕ) → c ≡ failure now m → s ≡ silent done (with_waiting no_waiting q) [] → Changes c q s now
  closes : (out : List ℕ) → c ≡ writes now out
      → s ≡ sends (with_session no_session q) (terminating_of q.session.key q.settings.address q.settings.router q.session.stamp) out → Changes c q s now
  is_closed : (m : List ℕ) → c ≡ terminating now m → s ≡ silent done (with_session no_session q) [] → Changes c q s now

-- what a call does: it is refused and nothing changes, or it is refused and what has lapsed goes, or that goes and one thing changes
pub data Effect (c : Call) (n : Node) (s : Step) (now : ℕ) : Type 0 where
  nothing : (why : Refusal) → changes_nothing why ≡ true → ends_waiting c why ≡ false → s ≡ refused_with why n (out_of c) → Effect c n s now
  lapses : n.clock ≤ now → (why : Refusal) → changes_nothing why ≡ false → ends_waiting c why ≡ false → s ≡ refused_with why (lapsed_at now n) (out_of c)
      → Effect c n s now
  changes : n.clock ≤ now → Changes c (lapsed_at now n) s now → Effect c n s now

module _ (n : Node) (now : ℕ) (h : n.clock ≤ now) where
  -- the node with what has lapsed gone
  abbrev q : Node
  q = lapsed_at now n

  -- a beacon that was read has such an effect
  by_beacon : (seed m out : List ℕ) (v : BeaconValues) → beacon_told m (read_beacon m) ≡ Ok v → Effect (beacon now seed m out) n (answering q seed v out) now
  unfolding answering
  by_beacon seed m out v e =
      let P : Step → Type 0 = λ s. Effect (beacon now seed m out) n s now in
      pick_all P (engaged q v.stamp) _ _ (λ _. lapses h _ refl refl refl) λ g.
      pick_all P (flip (is_above v.stamp q.used)) _ _ (λ _. lapses h _ refl refl refl) λ a.
      pick_all P (flip (lists q.settings.kind v.security)) _ _ (λ _. lapses h _ refl refl refl) λ _.
      pick_all P (flip (lists q.settings.network v.layers)) _ _ (λ _. lapses h _ refl refl refl) λ _.
      pick_all P (is_name (held_bytes q.settings.account)) _ _
      (λ named. changes h (asks seed m out v refl e g (flip_false (is_above v.stamp q.used) a) named refl)) λ _. lapses h _ refl refl refl

  -- so has a success that is refused with 1 to 6: 5 ends waiting
  by_refused : (m : List ℕ) (why : Refusal) → success_told m (read_success m) ≡ Err why → Effect (success now m) n (refused_with why (after_refusal why q) []) now
  unfolding after_refusal
  by_refused m why e =
      pick_all (λ (x : Node). Effect (success now m) n (refused_with why x []) now) (refusal_number why == 5) (with_waiting no_waiting q) q
      (λ five. changes h (gives_up m why refl (low_changes why (success_low m why e)) five refl)) λ other. lapses h why (low_changes why (success_low m why e)) other refl

  -- so has one that was read
  by_success : (m : List ℕ) (v : SuccessValues) → success_told m (read_success m) ≡ Ok v → Effect (success now m) n (opening_by q m v) now
  by_success m v e =
      under_key_all (λ (s : Step). Effect (success now m) n s now) v.s (awaits_answer q v.stamp)
      (same_bytes v.check (check_for q.waiting.key q.settings.router q.settings.address m)) _ _
      (lapses h _ refl refl refl) (lapses h _ refl refl refl) (lapses h _ refl refl refl) λ a. changes h (opens m v refl e a refl)

  -- so has a failure that was read
  by_failure : (m : List ℕ) (v : Failure) → Effect (failure now m) n (ending_by q v) now
  by_failure m v =
      pick_all (λ (s : Step). Effect (failure now m) n s now) (awaits_answer q v.stamp) _ _ (λ _. changes h (fails m refl refl)) λ _. lapses h _ refl refl refl

  -- so has the writing of a terminating message
  by_leaving : (out : List ℕ) → Effect (writes now out) n (leaving_now q out) now
  unfolding leaving_now
  by_leaving out =
      pick_all (λ (s : Step). Effect (writes now out) n s now) q.session.live _ _ (λ _. changes h (closes out refl refl)) λ _. lapses h _ refl refl refl

  -- so has a terminating message that was read
  by_terminating : (m : List ℕ) (v : TerminatingValues) → Effect (terminating now m) n (closed_by q m v) now
  by_terminating m v =
      under_key_all (λ (s : Step). Effect (terminating now m) n s now) v.s (in_session q v.stamp)
      (same_bytes v.check (check_for q.session.key q.settings.router q.settings.address m)) _ _
      (lapses h _ refl refl refl) (lapses h _ refl refl refl) (lapses h _ refl refl refl) λ _. changes h (is_closed m refl refl)

-- EVERY CALL has such an effect
pub effect : (n : Node) (c : Call) → Effect c n (step_of n c) (clock_of c)
unfolding heard succeeded failed leaving left
effect n (beacon now seed m out) =
    let P : Step → Type 0 = λ s. Effect (beacon now seed m out) n s now in
    pick_all P (nat_lt (length out) (limit_of Misp)) _ _ (λ _. nothing _ refl refl refl) λ _.
    pick_all P (nat_lt now n.clock) _ _ (λ _. nothing _ refl refl refl) λ f.
    let h = ltb-false now n.clock f in
    result_all P (beacon_told m (read_beacon m)) _ _ (λ why e. lapses h why (low_changes why (beacon_low m why e)) refl refl) λ v e. by_beacon n now h seed m out v e
effect n (success now m) =
    let P : Step → Type 0 = λ s. Effect (success now m) n s now in
    pick_all P (nat_lt now n.clock) _ _ (λ _. nothing _ refl refl refl) λ f.
    let h = ltb-false now n.clock f in
    result_all P (success_told m (read_success m)) _ _ (by_refused n now h m) λ v e. by_success n now h m v e
effect n (failure now m) =
    let P : Step → Type 0 = λ s. Effect (failure now m) n s now in
    pick_all P (nat_lt now n.clock) _ _ (λ _. nothing _ refl refl refl) λ f.
    let h = ltb-false now n.clock f in
    result_all P (read_failure m) _ _ (λ why e. lapses h why (low_changes why (failure_low m why e)) refl refl) λ v e. by_failure n now h m v
effect n (writes now out) =
    let P : Step → Type 0 = λ s. Effect (writes now out) n s now in
    pick_all P (nat_lt (length out) (limit_of Misp)) _ _ (λ _. nothing _ refl refl refl) λ _.
    pick_all P (nat_lt now n.clock) _ _ (λ _. nothing _ refl refl refl) λ f. by_leaving n now (ltb-false now n.clock f) out
effect n (terminating now m) =
    let P : Step → Type 0 = λ s. Effect (terminating now m) n s now in
    pick_all P (nat_lt now n.clock) _ _ (λ _. nothing _ refl refl refl) λ f.
    let h = ltb-false now n.clock f in
    result_all P (terminating_told m (read_terminating m)) _ _ (λ why e. lapses h why (low_changes why (terminating_low m why e)) refl refl) λ v e. by_terminating n now h m v
