-- What a refused call leaves at a node, for every state, clock, message and buffer: the state is the one of `left_by`, with waiting removed for 5 of a
-- success; nothing is written and the buffer stays.
use Rattle.std.specs.Prelude.{ℕ, ◌≡◌, refl, List, [], Err}
use Rattle.std.proofs.Common.{sym, ap, ◌∙◌}
use Rattle.refusal.specs.Step.{done, refused_with}
use Rattle.octets.specs.Choice.{pick}
use Rattle.octets.proofs.ChoiceLaws.{pick_true, pick_false, pick_again}
use Rattle.refusal.specs.declared.Refusal.{Refusal}
use Rattle.clock.specs.Clock.{is_over}
use Rattle.node.specs.declared.Session.{Session}
use Rattle.node.specs.declared.Node.{Node}
use Rattle.node.specs.State.{Step, no_waiting, no_session, session_at, lapsed_at, with_waiting}
use Rattle.hearing.specs.Hear.{heard}
use Rattle.node.specs.Answers.{after_refusal, succeeded, failed}
use Rattle.leaving.specs.Leave.{leaving, left}
use Rattle.theorems.specs.RefusedLaws.{changes_nothing, left_after, told_why, not_done}
use Rattle.theorems.specs.NodeEffects.{Call, beacon, success, failure, writes, terminating, clock_of, out_of, ends_waiting, Changes, asks, opens, gives_up, fails, closes, is_closed, Effect, nothing, lapses, changes, effect}

-- 'After 20 or 7 nothing changes. After others only the clock and lapsing above'; the node's rule for 5 is in `Ends`
abbrev pub left_by : Refusal → ℕ → Node → Node
left_by why now n = left_after why n (lapsed_at now n)

-- A call that is refused leaves that state and writes nothing (`refused_with`: 0 bytes, to nobody, and the buffer as it was).
abbrev pub Quiet : Node → ℕ → List ℕ → Step → Type 0
Quiet n now out s = (why : Refusal) → s.outcome.answer ≡ Err why → s ≡ refused_with why (left_by why now n) out

-- The same of a success, with the node's rule for 5 (`after_refusal`: 'a success with refusal 5 also ends waiting').
abbrev pub Ends : Node → ℕ → Step → Type 0
Ends n now s = (why : Refusal) → s.outcome.answer ≡ Err why → s ≡ refused_with why (after_refusal why (left_by why now n)) []

-- a refused call, whatever its kind
module _ (c : Call) (n : Node) where
  -- its clock
  abbrev now : ℕ
  now = clock_of c

  -- the state that a refusal leaves
  abbrev rest : Refusal → Node
  rest why = pick (ends_waiting c why) (with_waiting no_waiting (left_by why now n)) (left_by why now n)

  module _ (why : Refusal) where
    -- a step that is refused so leaves that state, writes nothing, and leaves the buffer as it was
    abbrev Leaves : Step → Type 0
    Leaves s = s.outcome.answer ≡ Err why → s ≡ refused_with why (rest why) (out_of c)

    -- a step that is done is not refused
    after_done : (s : Step) → s.outcome.answer ≡ done → Leaves s
    after_done s d f = absurd (not_done (sym f ∙ d))

    -- a step refused with any w that leaves the state for w leaves the state for `why`, if that is what it tells
    told_so : {s : Step} {w : Refusal} {q : Node} → s ≡ refused_with w q (out_of c) → q ≡ rest w → Leaves s
    told_so {s} {w} is e f =
        let same : w ≡ why = told_why (rw is at f) in
        is ∙ rw (e, same) refl

    -- of the steps that change the node only a success with refusal 5 is refused, and it leaves that state
    changed : (s : Step) → Changes c (lapsed_at now n) s now → Leaves s
    changed s (asks seed m out v is reads free above named done_so) = after_done s (rw done_so refl)
    changed s (opens m v is reads awaited done_so) = after_done s (rw done_so refl)
    changed s (gives_up m w is any five done_so) =
        let said : s ≡ refused_with w (with_waiting no_waiting (lapsed_at now n)) (out_of c) = done_so ∙ rw is refl in
        told_so said
        (ap (with_waiting no_waiting) (sym (pick_false (changes_nothing w) n (lapsed_at now n) any)) ∙ sym (pick_true (ends_waiting c w) _ _ five))
    changed s (fails m is done_so) = after_done s (rw done_so refl)
    changed s (closes out is done_so) = after_done s (rw done_so refl)
    changed s (is_closed m is done_so) = after_done s (rw done_so refl)

    -- every step does, if it is refused so
    leaves : (s : Step) → Effect c n s now → Leaves s
    leaves s (nothing w any five is) =
        told_so is (sym (pick_true (changes_nothing w) n (lapsed_at now n) any) ∙ sym (pick_false (ends_waiting c w) _ _ five))
    leaves s (lapses l w any five is) =
        told_so is (sym (pick_false (changes_nothing w) n (lapsed_at now n) any) ∙ sym (pick_false (ends_waiting c w) _ _ five))
    leaves s (changes l x) = changed s x

module _ (n : Node) (now : ℕ) where
  module _ (out : List ℕ) where
    -- what a refused beacon leaves
    pub heard_refused : (seed m : List ℕ) → Quiet n now out (heard n now seed m out)
    heard_refused seed m why = leaves (beacon now seed m out) n why (heard n now seed m out) (effect n (beacon now seed m out))

    -- what a terminating message leaves that is not written
    pub leaving_refused : Quiet n now out (leaving n now out)
    leaving_refused why = leaves (writes now out) n why (leaving n now out) (effect n (writes now out))

  -- the calls without a buffer
  module _ (m : List ℕ) where
    -- what a refused success leaves
    pub succeeded_refused : Ends n now (succeeded n now m)
    unfolding after_refusal
    succeeded_refused why = leaves (success now m) n why (succeeded n now m) (effect n (success now m))

    -- what a refused failure leaves
    pub failed_refused : Quiet n now [] (failed n now m)
    failed_refused why = leaves (failure now m) n why (failed n now m) (effect n (failure now m))

    -- what a refused terminating message leaves
    pub left_refused : Quiet n now [] (left n now m)
    left_refused why = leaves (terminating now m) n why (left n now m) (effect n (terminating now m))

-- what lapsed is gone: lapsing again at the same clock changes nothing
pub node_lapse_again : (now : ℕ) (n : Node) → lapsed_at now (lapsed_at now n) ≡ lapsed_at now n
unfolding lapsed_at session_at
node_lapse_again now n =
    ap (λ (x : Session). record { settings = n.settings; clock = now; used = n.used; waiting = n.waiting; session = x })
    (pick_again (λ (x : Session). is_over now x.since x.lifetime n.settings.unit) no_session n.session)
