-- What each call does at a router, with any arguments: nothing (20 and 7), or the clock is stored and what has lapsed goes, and then at most one place changes,
-- in one of six ways. Each case says all that is handed back and written. The calls' definitions are gone through here; what else is said of all calls
-- (what a refusal leaves, what holds in every state reached, what a router can do in a run) rests on `effect`.
use Rattle.std.specs.Prelude.{ℕ, ◌<◌, ◌≤◌, true, false, ◌≡◌, List, [], ◌∷◌, length, take, replicate, nat_le, nat_lt, slice_index, ◌==◌, Option, Err, Some, None, Ok}
use Rattle.std.proofs.Math.Path.{refl}
use borrow.Author.Tests.{eqb-true, ltb-true, ltb-false, leb-false}
use Rattle.refusal.specs.Step.{done, silent, refused_with, sends}
use Rattle.octets.specs.Choice.{flip}
use Rattle.octets.specs.Same.{same_bytes}
use Rattle.octets.proofs.ChoiceLaws.{never, pick_all, both_left, both_right, flip_false}
use Rattle.octets.proofs.SameLaws.{same_true}
use Rattle.held.specs.Held.{held_bytes}
use Rattle.object.specs.declared.family.Family.TheVariants.{Misp, Misauth}
use Rattle.object.specs.Family.{limit_of}
use Rattle.refusal.specs.declared.Refusal.{Refusal}
use Rattle.refusal.specs.declared.To.TheVariants.{Everyone, Server, Address}
use Rattle.refusal.specs.Table.{refusal_number}
use Rattle.terms.specs.Terms.{lists, is_one_type}
use Rattle.clock.specs.Clock.{is_ahead, is_stale}
use Rattle.position.specs.Position.{in_range}
use Rattle.message.specs.Reading.{headed}
use Rattle.message.proofs.RefusedLaws.{head_refused}
use Rattle.message.proofs.ToldLaws.{result_all}
use Rattle.misp.specs.Failure.{failure_bytes}
use Rattle.misp.specs.Request.{RequestValues, read_request, request_told}
use Rattle.misp.specs.Terminating.{TerminatingValues, read_terminating, terminating_told}
use Rattle.misauth.specs.Accept.{AcceptValues, read_accept, accept_told}
use Rattle.misauth.specs.Reject.{RejectValues, read_reject, reject_told}
use Rattle.authenticator.specs.Authenticator.{is_authentic}
use Rattle.checked.specs.Checked.{check_for, terminating_of}
use Rattle.checked.proofs.UnderKeyLaws.{under_key_all}
use Rattle.places.specs.declared.state.Router.{Router}
use Rattle.places.specs.State.{lapsed_at, find_of, lowest_free}
use Rattle.turn.specs.Outcome.{Step, place_of, with_place}
use Rattle.turn.specs.Writes.{asked_of, success_for, reject_reason}
use Rattle.router.specs.Beacon.{beacon_of, beaconed}
use Rattle.entering.specs.Request.{asking, failing, attempted, placed, repeats_attempt, repeats_session, known, unknown, by_place, judged, judged_request, requested}
use Rattle.settling.specs.Reply.{settled, opened_by, is_for_attempt, by_accept, by_reject, awaits, is_reply, answered, judged_reply, replied}
use Rattle.router.specs.Close.{closed_place, close_at, closing, in_session, closed_at, closed_now, closed}
use Rattle.theorems.specs.FreshLaws.{fresh_young}
use Rattle.theorems.specs.RefusedLaws.{changes_nothing, reason_of}
use Rattle.theorems.specs.LowLaws.{request_low, terminating_low, accept_low, reject_low, low_changes, low_reason}
use Rattle.theorems.specs.RouterPlaceLaws.{Found, found, nowhere}
use Rattle.theorems.specs.RouterArrivals.{Arrives, Waits, Opened}
use Rattle.theorems.specs.RouterArrivedLaws.{repeats_waits, repeats_opened}

-- a call on a router, with the clock that it is given
pub data Call : Type 0 where
  beacon : (now serial : ℕ) (out : List ℕ) → Call
  request_from : (now : ℕ) (from m out : List ℕ) → Call
  reply : (now : ℕ) (m out : List ℕ) → Call
  terminate : (now : ℕ) (to out : List ℕ) → Call
  terminating : (now : ℕ) (from m : List ℕ) → Call

-- its clock
abbrev pub clock_of : Call → ℕ
clock_of (beacon now serial out) = now
clock_of (request_from now from m out) = now
clock_of (reply now m out) = now
clock_of (terminate now to out) = now
clock_of (terminating now from m) = now

-- the buffer that it is lent; a terminating message that arrives has none
abbrev pub out_of : Call → List ℕ
out_of (beacon now serial out) = out
out_of (request_from now from m out) = out
out_of (reply now m out) = out
out_of (terminate now to out) = out
out_of (terminating now from m) = []

-- what it hands back, and leaves in its buffer
abbrev pub step_of : Router → Call → Step
step_of r (beacon now serial out) = beaconed r now serial out
step_of r (request_from now from m out) = requested r now from m out
step_of r (reply now m out) = replied r now m out
step_of r (terminate now to out) = closing r now to out
step_of r (terminating now from m) = closed r now from m

-- the state that a call leaves
abbrev pub after : Router → Call → Router
after r c = (step_of r c).outcome.state

-- the state after calls, the first of the list first
abbrev pub run : Router → List Call → Router
run r [] = r
run r (c ∷ cs) = run (after r c) cs

-- A call at the clock `now`; q is the state r with what has lapsed gone.
module _ (r : Router) (now : ℕ) where
  -- the state with what has lapsed gone
  abbrev q : Router
  q = lapsed_at now r

  -- No place of q changes. The router's beacon goes out; a request (fields v) that its place waits on gets the access request once more, one whose session is
  -- open the success.
  pub data Passes (c : Call) (s : Step) : Type 0 where
    beacons : (serial : ℕ) (out : List ℕ) → c ≡ beacon now serial out
        → s ≡ sends done q Everyone (beacon_of r.settings now serial) out → Passes c s
    asks_again : (from m out : List ℕ) (v : RequestValues) (i : ℕ) → c ≡ request_from now from m out → Arrives r now m out v → Waits q from v i
        → s ≡ sends done q Server (asked_of r.settings i from m v) out → Passes c s
    says_again : (from m out : List ℕ) (v : RequestValues) (i : ℕ) → c ≡ request_from now from m out → Opened q from v i
        → s ≡ sends done q (Address from) (success_for r.settings from (place_of i q).session) out → Passes c s

  -- One place of q changes. A request (fields v) renews its node's place or takes a free one, and the access request goes out; an accept (fields v) opens the
  -- attempt whose check value it has, and the success goes out; a reject ends the attempt, and a failure goes out; a terminating message that is written, or
  -- that arrives, closes.
  pub data Changes (c : Call) (s : Step) : Type 0 where
    renews : (from m out : List ℕ) (v : RequestValues) (i : ℕ) → c ≡ request_from now from m out → Arrives r now m out v → Found q from i
        → (place_of i q).last < v.stamp
        → s ≡ sends done (with_place i (attempted v (place_of i q)) q) Server (asked_of r.settings i from m v) out → Changes c s
    takes : (from m out : List ℕ) (v : RequestValues) → c ≡ request_from now from m out → Arrives r now m out v → ((i : ℕ) → Found q from i → ⊥)
        → lowest_free q.places < 64
        → s ≡ sends done (with_place (lowest_free q.places) (placed from v) q) Server (asked_of r.settings (lowest_free q.places) from m v) out
        → Changes c s
    opens : (m out : List ℕ) (v : AcceptValues) (i : ℕ) → c ≡ reply now m out → accept_told m (read_accept m) ≡ Ok v → i ≡ slice_index m 1 → awaits q i ≡ true
        → v.check ≡ (place_of i q).attempt.check
        → s ≡ sends done (with_place i (settled (place_of i q) (opened_by q (place_of i q) now v)) q) (Address (place_of i q).address)
        (success_for r.settings (place_of i q).address (opened_by q (place_of i q) now v)) out → Changes c s
    rejects : (m out : List ℕ) (v : RejectValues) (i : ℕ) → c ≡ reply now m out → reject_told m (read_reject m) ≡ Ok v → (slice_index m 0 == 2) ≡ false
        → awaits q i ≡ true
        → s ≡ sends done (with_place i (settled (place_of i q) (place_of i q).session) q) (Address (place_of i q).address)
        (failure_bytes (place_of i q).attempt.stamp reject_reason) out → Changes c s
    closes : (to out : List ℕ) (i : ℕ) → c ≡ terminate now to out → Found q to i → (place_of i q).session.live ≡ true
        → s ≡ sends done (with_place i (closed_place (place_of i q)) q) (Address to)
        (terminating_of (place_of i q).session.key r.settings.address to (place_of i q).session.stamp) out → Changes c s
    is_closed : (from m : List ℕ) (v : TerminatingValues) (i : ℕ) → c ≡ terminating now from m → terminating_told m (read_terminating m) ≡ Ok v
        → Found q from i → (place_of i q).session.live ≡ true → v.stamp ≡ (place_of i q).session.stamp
        → s ≡ silent done (with_place i (closed_place (place_of i q)) q) [] → Changes c s

-- What a call does. It is refused and nothing changes; it is refused and what has lapsed goes, or a request's sender is told the refusal's reason beside; or it
-- is done: what has lapsed goes, and then no place changes, or one.
pub data Effect (c : Call) (r : Router) (s : Step) (now : ℕ) : Type 0 where
  nothing : (why : Refusal) → changes_nothing why ≡ true → reason_of (refusal_number why) ≡ None → s ≡ refused_with why r (out_of c) → Effect c r s now
  lapses : r.clock ≤ now → (why : Refusal) → changes_nothing why ≡ false → reason_of (refusal_number why) ≡ None
      → s ≡ refused_with why (lapsed_at now r) (out_of c) → Effect c r s now
  fails : r.clock ≤ now → (from m out : List ℕ) (v : RequestValues) (why : Refusal) (reason : ℕ) → c ≡ request_from now from m out
      → request_told m (read_request m) ≡ Ok v → changes_nothing why ≡ false → reason_of (refusal_number why) ≡ Some reason
      → s ≡ sends (Err why) (lapsed_at now r) (Address from) (failure_bytes v.stamp reason) out → Effect c r s now
  passes : r.clock ≤ now → Passes r now c s → Effect c r s now
  changes : r.clock ≤ now → Changes r now c s → Effect c r s now

-- what passes is done, and leaves the state with what has lapsed gone
pub passes_done : (r : Router) (now : ℕ) (c : Call) (s : Step) → Passes r now c s → (s.outcome.answer ≡ done) × (s.outcome.state ≡ lapsed_at now r)
passes_done r now c s (beacons serial out e is) = rw is (refl, refl)
passes_done r now c s (asks_again from m out v i e a w is) = rw is (refl, refl)
passes_done r now c s (says_again from m out v i e w is) = rw is (refl, refl)

-- what changes a place is done
pub changes_done : (r : Router) (now : ℕ) (c : Call) (s : Step) → Changes r now c s → s.outcome.answer ≡ done
changes_done r now c s (renews from m out v i e a f l is) = rw is refl
changes_done r now c s (takes from m out v e a n l is) = rw is refl
changes_done r now c s (opens m out v i e t k w x is) = rw is refl
changes_done r now c s (rejects m out v i e t k w is) = rw is refl
changes_done r now c s (closes to out i e f l is) = rw is refl
changes_done r now c s (is_closed from m v i e t f l k is) = rw is refl

module _ (r : Router) (now : ℕ) (h : r.clock ≤ now) where
  -- the state with what has lapsed gone
  abbrev left : Router
  left = lapsed_at now r

  -- 1 to 6 are passed on, and what has lapsed goes
  passes_on : {c : Call} {s : Step} (why : Refusal) → refusal_number why ≤ 6 → s ≡ refused_with why left (out_of c) → Effect c r s now
  passes_on why low is = lapses h why (low_changes why low) (low_reason why low) is

  -- REPLY
  module _ (m out : List ℕ) where
    -- the step is an effect of this reply
    abbrev Replied : Step → Type 0
    Replied s = Effect (reply now m out) r s now

    -- an accept for a place that waits, whatever it is read as, has such an effect
    by_accept_law : (i : ℕ) → i ≡ slice_index m 1 → awaits left i ≡ true → Replied (by_accept (accept_told m (read_accept m)) left i (place_of i left) now out)
    unfolding lapsed_at
    by_accept_law i k a =
        result_all Replied (accept_told m (read_accept m)) _ _ (λ why e. passes_on why (accept_low m why e) refl) λ v e.
        pick_all Replied (is_for_attempt v (place_of i left)) _ _
        (λ s. changes h (opens m out v i refl e k a (same_true v.check (place_of i left).attempt.check s) refl)) λ _. lapses h _ refl refl refl

    -- so has a reject
    by_reject_law : (slice_index m 0 == 2) ≡ false → (i : ℕ) → awaits left i ≡ true → Replied (by_reject (reject_told m (read_reject m)) left i (place_of i left) out)
    by_reject_law n i a =
        result_all Replied (reject_told m (read_reject m)) _ _ (λ why e. passes_on why (reject_low m why e) refl) λ v e.
        changes h (rejects m out v i refl e n a refl)

    -- so has every reply past 20 and 7
    by_reply : Replied (judged_reply left now m out)
    unfolding answered
    by_reply =
        result_all Replied (headed Misauth m) _ _ (λ why e. passes_on why (head_refused Misauth m why e) refl) λ end _.
        pick_all Replied (flip (is_reply (slice_index m 0))) _ _ (λ _. lapses h _ refl refl refl) λ _.
        pick_all Replied (flip (awaits left (slice_index m 1))) _ _ (λ _. lapses h _ refl refl refl) λ f.
        pick_all Replied (flip (is_authentic (held_bytes left.settings.secret) (take end m))) _ _ (λ _. lapses h _ refl refl refl) λ _.
        pick_all Replied (slice_index m 0 == 2) _ _
        (λ _. by_accept_law (slice_index m 1) refl (flip_false (awaits left (slice_index m 1)) f)) λ n.
        by_reject_law n (slice_index m 1) (flip_false (awaits left (slice_index m 1)) f)

  -- a terminating message is WRITTEN, with such an effect, whether its address has a place or not
  close_at_law : (to out : List ℕ) (w : Option ℕ) → find_of left.places to ≡ w → Effect (terminate now to out) r (close_at w left to out) now
  unfolding lapsed_at
  close_at_law to out None e = lapses h _ refl refl refl
  close_at_law to out (Some i) e =
      pick_all (λ (s : Step). Effect (terminate now to out) r s now) (place_of i left).session.live _ _
      (λ l. changes h (closes to out i refl (found left to i e) l refl)) λ _. lapses h _ refl refl refl

  -- a terminating message ARRIVES
  module _ (from m : List ℕ) where
    -- the step is an effect of this message
    abbrev Closed : Step → Type 0
    Closed s = Effect (terminating now from m) r s now

    -- once read it has such an effect, whether its sender has a place or not
    closed_at_law : (w : Option ℕ) (v : TerminatingValues) → terminating_told m (read_terminating m) ≡ Ok v → find_of left.places from ≡ w → Closed (closed_at w left from m v)
    closed_at_law None v t e =
        under_key_all Closed v.s false false _ _ (lapses h _ refl refl refl) (lapses h _ refl refl refl) (lapses h _ refl refl refl) λ a. never a
    closed_at_law (Some i) v t e =
        let s = (place_of i left).session in
        under_key_all Closed v.s (in_session s v.stamp) (same_bytes v.check (check_for s.key from left.settings.address m)) _ _
        (lapses h _ refl refl refl) (lapses h _ refl refl refl) (lapses h _ refl refl refl) λ b.
        changes h
        (is_closed from m v i refl t (found left from i e) (both_left s.live _ b) (eqb-true v.stamp s.stamp (both_right s.live _ b)) refl)

    -- so has every terminating message past 7
    by_terminating : Closed (closed_now left from m)
    by_terminating =
        result_all Closed (terminating_told m (read_terminating m)) _ _ (λ why e. passes_on why (terminating_low m why e) refl) λ v e.
        closed_at_law (find_of left.places from) v e refl

  -- REQUEST
  module _ (from m out : List ℕ) where
    -- the step is an effect of this request
    abbrev Asked : Step → Type 0
    Asked s = Effect (request_from now from m out) r s now

    -- where the access request can be written what it comes to is given; else it is 18, and what has lapsed goes
    asks : (i : ℕ) (v : RequestValues) (p : Router)
        → (in_range r.settings.position ≡ true → Asked (sends done p Server (asked_of r.settings i from m v) out)) → Asked (asking left p i from m v out)
    unfolding asking lapsed_at
    asks i v p f = pick_all Asked (in_range r.settings.position) _ _ f λ _. lapses h _ refl refl refl

    module _ (v : RequestValues) (reads : request_told m (read_request m) ≡ Ok v) where
      -- a refusal that has a reason: the sender is told it
      tells : (why : Refusal) (reason : ℕ) → changes_nothing why ≡ false → reason_of (refusal_number why) ≡ Some reason → Asked (failing why reason left from v out)
      unfolding failing
      tells why reason n e = fails h from m out v why reason refl reads n e refl

      -- past 12 the place of the sender's address decides: the request repeats, is 13, or renews it; without one it takes a free place, or is 14
      by_place_law : (w : Option ℕ) → (in_range r.settings.position ≡ true → Arrives r now m out v) → find_of left.places from ≡ w → Asked (by_place w left from m v out)
      unfolding known unknown lapsed_at
      by_place_law (Some i) a e =
          let f = found left from i e in
          pick_all Asked (repeats_attempt v (place_of i left)) _ _
          (λ t. asks i v left (λ p. passes h (asks_again from m out v i refl (a p) (repeats_waits left from v i f t) refl))) λ _.
          pick_all Asked (repeats_session v (place_of i left)) _ _ (λ t. passes h (says_again from m out v i refl (repeats_opened left from v i f t) refl)) λ _.
          pick_all Asked (nat_le v.stamp (place_of i left).last) _ _ (λ _. lapses h _ refl refl refl) λ l.
          asks i v _ (λ p. changes h (renews from m out v i refl (a p) f (leb-false v.stamp (place_of i left).last l) refl))
      by_place_law None a e =
          let i = lowest_free left.places in
          pick_all Asked (nat_lt (lowest_free left.places) 64) _ _
          (λ l. asks i v _ (λ p. changes h (takes from m out v refl (a p) (nowhere left from e) (ltb-true i 64 l) refl))) λ _. tells _ _ refl refl

      -- a request that was read has such an effect: 8 to 12, and then its place
      judges : limit_of Misauth ≤ length out → Asked (judged left now from m v out)
      unfolding judged lapsed_at
      judges output =
          pick_all Asked v.s _ _ (λ _. lapses h _ refl refl refl) λ zero.
          pick_all Asked (flip (is_one_type v.security)) _ _ (λ _. tells _ _ refl refl) λ type.
          pick_all Asked (flip (lists r.settings.network v.layers)) _ _ (λ _. tells _ _ refl refl) λ network.
          pick_all Asked (is_ahead now v.stamp) _ _ (λ _. lapses h _ refl refl refl) λ ahead.
          pick_all Asked (is_stale now v.stamp r.settings.window) _ _ (λ _. tells _ _ refl refl) λ old.
          by_place_law (find_of left.places from)
          (λ position.
          record {
            output = output;
            clock = h;
            reads = reads;
            s_is_zero = zero;
            one_type = flip_false (is_one_type v.security) type;
            our_network = flip_false (lists r.settings.network v.layers) network;
            not_ahead = ltb-false now v.stamp ahead;
            not_old = fresh_young now v.stamp r.settings.window old;
            position = position;
          })
          refl

    -- so has every request past 20 and 7
    by_request : limit_of Misauth ≤ length out → Asked (judged_request left now from m out)
    by_request output =
        result_all Asked (request_told m (read_request m)) _ _ (λ why e. passes_on why (request_low m why e) refl) λ v e. judges v e output

-- EVERY CALL has such an effect
pub effect : (r : Router) (c : Call) → Effect c r (step_of r c) (clock_of c)
unfolding beaconed requested replied closing closed
effect r (beacon now serial out) =
    let P : Step → Type 0 = λ s. Effect (beacon now serial out) r s now in
    pick_all P (nat_lt (length out) (limit_of Misp)) _ _ (λ _. nothing _ refl refl refl) λ _.
    pick_all P (nat_lt now r.clock) _ _ (λ _. nothing _ refl refl refl) λ f. passes (ltb-false now r.clock f) (beacons serial out refl refl)
effect r (request_from now from m out) =
    let P : Step → Type 0 = λ s. Effect (request_from now from m out) r s now in
    pick_all P (nat_lt (length out) (limit_of Misauth)) _ _ (λ _. nothing _ refl refl refl) λ output.
    pick_all P (nat_lt now r.clock) _ _ (λ _. nothing _ refl refl refl) λ f.
    by_request r now (ltb-false now r.clock f) from m out (ltb-false (length out) (limit_of Misauth) output)
effect r (reply now m out) =
    let P : Step → Type 0 = λ s. Effect (reply now m out) r s now in
    pick_all P (nat_lt (length out) (limit_of Misp)) _ _ (λ _. nothing _ refl refl refl) λ _.
    pick_all P (nat_lt now r.clock) _ _ (λ _. nothing _ refl refl refl) λ f.
    by_reply r now (ltb-false now r.clock f) m out
effect r (terminate now to out) =
    let P : Step → Type 0 = λ s. Effect (terminate now to out) r s now in
    pick_all P (nat_lt (length out) (limit_of Misp)) _ _ (λ _. nothing _ refl refl refl) λ _.
    pick_all P (nat_lt now r.clock) _ _ (λ _. nothing _ refl refl refl) λ f.
    close_at_law r now (ltb-false now r.clock f) to out (find_of (lapsed_at now r).places to) refl
effect r (terminating now from m) =
    let P : Step → Type 0 = λ s. Effect (terminating now from m) r s now in
    pick_all P (nat_lt now r.clock) _ _ (λ _. nothing _ refl refl refl) λ f.
    by_terminating r now (ltb-false now r.clock f) from m
