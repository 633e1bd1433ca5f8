-- `turn_at` meets its contract: one law for each way.
use mathlib.Core.Path.{sym, ◌∙◌}
use Rattle.octets.proofs.BytesLaws.{bytes_known}
use Rattle.message.proofs.BeginLaws.{room_small}
use Rattle.turn.proofs.TurnLaws.{turned_still}
use Rattle.entering.specs.Seated.{requested_now}
use Rattle.entering.proofs.RequestLaws.{vouched, now_refused, now_judged}
use Rattle.entering.proofs.turn_at.Goals as goal

pub returns-then-out-limit : goal.returns-then-out-limit
unfolding requested_now
returns-then-out-limit c = record { leaves = λ q h. room_small _ _ (rw c.limit.ensures at c.if-out-limit.true) (turned_still q _ h.here c.refused.ensures) }

pub judge-requires : goal.judge-requires
judge-requires c = record {
  vouched = vouched c.args.m.now c.in-Ok.v (bytes_known c.args.m.now c.type_inv.m)
      (sym c.read_request.ensures ∙ c.in-Ok.is);
  room = rw c.limit.ensures at c.if-out-limit.false;
}

pub returns-in-Err : goal.returns-in-Err
returns-in-Err c = record {
  leaves =
      λ q h.
      now_refused q _ _ _ _ (rw c.limit.ensures at c.if-out-limit.false) (sym c.read_request.ensures ∙ c.in-Err.is)
      (turned_still q _ h.here c.refused-in-Err.ensures);
}

pub returns : goal.returns
returns c = record {
  leaves =
      λ q h.
      now_judged q _ _ _ _ (rw c.limit.ensures at c.if-out-limit.false) (sym c.read_request.ensures ∙ c.in-Ok.is)
      (c.judge.ensures.leaves q h);
}
