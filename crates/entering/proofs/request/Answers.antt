-- `request` meets its contract: one law for each way.
use mathlib.Core.Path.{refl, sym, ap₂, ◌∙◌}
use borrow.Author.Rules.{rules}
use Rattle.message.proofs.BeginLaws.{room_small, room_back}
use Rattle.entering.specs.Request.{requested}
use Rattle.entering.specs.Seated.{seat_of}
use Rattle.entering.proofs.RequestLaws.{request_now}
use Rattle.entering.proofs.request.Goals as goal

pub returns-then-out-limit : goal.returns-then-out-limit
unfolding requested
returns-then-out-limit c = room_small _ _ (rw c.limit.ensures at c.if-out-limit.true) c.refused.ensures

pub returns-then-clock-r : goal.returns-then-clock-r
unfolding requested
returns-then-clock-r c = room_back _ _ _ (rw c.limit.ensures at c.if-out-limit.false) c.if-clock-r.true c.refused-then-clock-r.ensures

pub returns : goal.returns
returns c = request_now _ _ _ _ _ (rw c.limit.ensures at c.if-out-limit.false) c.if-clock-r.false c.lapse-q.ensures
    (rw (c.turned.ensures, c.number-i.ensures)
    (c.turn_at-t.ensures.leaves c.lapse-q.result
    (record {
      same = refl;
      whole = search rules;
      found = sym (c.seat_of-seat.ensures ∙ ap₂ seat_of c.find.ensures c.free_place.ensures);
      here = sym (rw c.number-i.ensures at c.place_of.ensures);
    })))
