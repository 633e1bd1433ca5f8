-- `close_turn` meets its contract: one law for each way.
use Rattle.message.proofs.BeginLaws.{room_small}
use Rattle.turn.proofs.TurnLaws.{turned_still}
use Rattle.router.proofs.CloseLaws.{now_none, now_sent}
use Rattle.router.proofs.close.close_turn.Goals as goal

pub returns-then-out-limit : goal.returns-then-out-limit
returns-then-out-limit c = record {
  leaves =
      λ q i own whole n is.
      room_small _ _ (rw c.limit.ensures at c.if-out-limit.true) (turned_still q i is c.refused.ensures);
}

pub returns-then-not-p : goal.returns-then-not-p
returns-then-not-p c = record {
  leaves =
      λ q i own whole n is.
      now_none q i is own whole _ _ (rw c.limit.ensures at c.if-out-limit.false) n
      c.if-not-p.true c.refused-then-not-p.ensures;
}

pub returns : goal.returns
returns c = record {
  leaves =
      λ q i own whole n is.
      now_sent q i is own whole _ _ (rw c.limit.ensures at c.if-out-limit.false) n
      c.if-not-p.false c.write_terminating-w.ensures c.closed_place.ensures c.written.ensures;
}
