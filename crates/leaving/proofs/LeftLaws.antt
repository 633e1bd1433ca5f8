-- The exits of a terminating message that arrives at a node.
use Rattle.std.specs.Prelude.{Ok, Err}
use Prim.Native.Nat.{ℕ, ◌≤◌}
use mathlib.Core.Path.{◌≡◌, ◌∙◌}
use mathlib.Core.List.{List, []}
use borrow.Author.Tests.{le-ltb}
use Rattle.refusal.specs.declared.Outcome.{Outcome}
use Rattle.refusal.specs.Step.{refused_with}
use Rattle.refusal.specs.declared.Refusal.{Refusal}
use Rattle.node.specs.declared.Node.{Node}
use Rattle.misp.specs.Terminating.{read_terminating, terminating_from, terminating_told}
use Rattle.misp.specs.declared.terminating.Terminating.{Terminating}
use Rattle.node.specs.State.{lapsed_at}
use Rattle.leaving.specs.Leave.{closed_by, left}

-- a call, past 7: 1 to 6, then a message that was read
module _ (n : Node) (clock : ℕ) (m : List ℕ) where
  -- what the call hands back
  abbrev AfterTerminating : Outcome Node → Type 0
  AfterTerminating o = o ≡ (left n clock m).outcome

  module _ (a : n.clock ≤ clock) {q : Node} (e : q ≡ lapsed_at clock n) where
    -- 1 to 6
    pub left_unread : {why : Refusal} → read_terminating m ≡ Err why → AfterTerminating (refused_with why q []).outcome
    unfolding left terminating_told
    left_unread r = rw (e, le-ltb _ _ a, r)

    -- past them
    pub left_read : {v : Terminating} → read_terminating m ≡ Ok v → {o : Outcome Node} → o ≡ (closed_by q m (terminating_from m v)).outcome
        → AfterTerminating o
    unfolding left terminating_told
    left_read r p = p ∙ rw (e, le-ltb _ _ a, r)
