-- `turn_at` meets its contract: one law for each way.
use mathlib.Core.Path.{sym, ◌∙◌}
use Rattle.message.proofs.BeginLaws.{room_small}
use Rattle.turn.proofs.TurnLaws.{turned_still}
use Rattle.settling.specs.Parts.{replied_now}
use Rattle.settling.proofs.ReplyLaws.{now_refused, now_answered}
use Rattle.settling.proofs.turn_at.Goals as goal

pub returns-then-out-limit : goal.returns-then-out-limit
unfolding replied_now
returns-then-out-limit c = record { leaves = λ q e k. room_small _ _ (rw c.limit.ensures at c.if-out-limit.true) (turned_still q _ k c.refused.ensures) }

pub answer-requires : goal.answer-requires
answer-requires c = rw c.limit.ensures at c.if-out-limit.false

pub returns-in-Err : goal.returns-in-Err
returns-in-Err c = record {
  leaves =
      λ q e k.
      now_refused q _ _ _ (rw c.limit.ensures at c.if-out-limit.false) (sym c.head.ensures ∙ c.in-Err.is)
      (turned_still q _ k c.refused-in-Err.ensures);
}

pub returns : goal.returns
returns c = record {
  leaves =
      λ q e k.
      now_answered q _ _ _ (rw c.limit.ensures at c.if-out-limit.false) (sym c.head.ensures ∙ c.in-Ok.is)
      (c.answer.ensures.leaves q e k);
}
