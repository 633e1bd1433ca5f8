-- The exits of a success and of a failure at a node.
use Prim.Native.Nat.{ℕ, ◌≤◌}
use mathlib.Core.Path.{◌≡◌, ◌∙◌}
use mathlib.Core.Bool.{true, false}
use mathlib.Core.List.{List, []}
use borrow.Author.Tests.{le-ltb}
use Rattle.std.specs.Prelude.{Ok, Err}
use Rattle.refusal.specs.declared.Outcome.{Outcome}
use Rattle.refusal.specs.Step.{done, refused_with, silent}
use Rattle.refusal.specs.declared.Refusal.{Refusal}
use Rattle.refusal.specs.declared.Refusal.TheVariants.{NotExpected}
use Rattle.node.specs.declared.Node.{Node}
use Rattle.misp.specs.Success.{read_success, success_from, success_told}
use Rattle.misp.specs.declared.success.Success.{Success}
use Rattle.misp.specs.Failure.{read_failure}
use Rattle.misp.specs.declared.failure.Failure.{Failure}
use Rattle.node.specs.declared.Waiting.{Waiting}
use Rattle.node.specs.State.{no_waiting, lapsed_at, with_waiting}
use Rattle.node.specs.Answers.{awaits_answer, after_refusal, opening_by, succeeded, failed}

-- a success, past 7: 1 to 6, then one that was read
module _ (n : Node) (clock : ℕ) (m : List ℕ) where
  -- what the call hands back
  abbrev AfterSuccess : Outcome Node → Type 0
  AfterSuccess o = o ≡ (succeeded n clock m).outcome

  module _ (a : n.clock ≤ clock) {q : Node} (e : q ≡ lapsed_at clock n) where
    -- 1 to 6; 5 ends waiting
    pub opens_refused : {why : Refusal} → read_success m ≡ Err why → {p : Node} → p ≡ after_refusal why q
        → AfterSuccess (refused_with why p []).outcome
    unfolding succeeded success_told
    opens_refused r f = rw (f, e, le-ltb _ _ a, r)

    -- past them
    pub opens_taken : {v : Success} → read_success m ≡ Ok v → {o : Outcome Node} → o ≡ (opening_by q m (success_from m v)).outcome
        → AfterSuccess o
    unfolding succeeded success_told
    opens_taken r p = p ∙ rw (e, le-ltb _ _ a, r)

-- a failure, past 7: 1 to 6, 21
module _ (n : Node) (clock : ℕ) (m : List ℕ) where
  -- what the call hands back
  abbrev AfterFailure : Outcome Node → Type 0
  AfterFailure o = o ≡ (failed n clock m).outcome

  module _ (a : n.clock ≤ clock) {q : Node} (e : q ≡ lapsed_at clock n) where
    -- 1 to 6
    pub failure_refused : {why : Refusal} → read_failure m ≡ Err why → AfterFailure (refused_with why q []).outcome
    unfolding failed
    failure_refused r = rw (e, le-ltb _ _ a, r)

    -- 21
    pub failure_other : {v : Failure} → read_failure m ≡ Ok v → awaits_answer q v.stamp ≡ false
        → AfterFailure (refused_with NotExpected q []).outcome
    unfolding failed
    failure_other r t = rw (e, le-ltb _ _ a, r, rw e at t)

    -- it ends waiting
    pub failure_ends : {v : Failure} → read_failure m ≡ Ok v → awaits_answer q v.stamp ≡ true → {w : Waiting} {p : Node} → p ≡ with_waiting w q → w ≡ no_waiting
        → AfterFailure (silent done p []).outcome
    unfolding failed
    failure_ends r t f g = rw (f, g, e, le-ltb _ _ a, r, rw e at t)
