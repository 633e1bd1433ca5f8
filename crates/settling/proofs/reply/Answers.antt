-- `reply` meets its contract: one law for each way.
use Rattle.message.proofs.BeginLaws.{room_small, room_back}
use Rattle.settling.specs.Reply.{replied}
use Rattle.settling.proofs.ReplyLaws.{reply_turned}
use Rattle.settling.proofs.reply.Goals as goal

pub returns-then-out-limit : goal.returns-then-out-limit
unfolding replied
returns-then-out-limit c = room_small _ _ (rw c.limit.ensures at c.if-out-limit.true) c.refused.ensures

pub returns-then-clock-r : goal.returns-then-clock-r
unfolding replied
returns-then-clock-r c = room_back _ _ _ (rw c.limit.ensures at c.if-out-limit.false) c.if-clock-r.true c.refused-then-clock-r.ensures

pub returns : goal.returns
returns c = reply_turned _ _ _ _ (rw c.limit.ensures at c.if-out-limit.false) c.if-clock-r.false c.lapse-q.ensures c.byte_at-i.ensures
    c.place_of.ensures c.turn_at-t.ensures c.turned.ensures
