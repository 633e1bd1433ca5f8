-- `close` meets its contract: 20, 7, then the turn of the place.
use mathlib.Core.Path.{◌≡◌}
use lib.ListN.{length}
use borrow.Author.Rules.{rules}
use Rattle.message.proofs.BeginLaws.{room_small, room_back}
use Rattle.router.specs.Close.{closing}
use Rattle.router.proofs.CloseLaws.{close_turned}
use Rattle.router.proofs.close.close.Goals as goal

pub returns-then-out-limit : goal.returns-then-out-limit
unfolding closing
returns-then-out-limit c = room_small _ _ (rw c.limit.ensures at c.if-out-limit.true) c.refused.ensures

pub returns-then-clock-r : goal.returns-then-clock-r
unfolding closing
returns-then-clock-r c = room_back _ _ _ (rw c.limit.ensures at c.if-out-limit.false) c.if-clock-r.true c.refused-then-clock-r.ensures

pub returns : goal.returns
returns c =
    let whole : length c.args.r.places ≡ 64 = search rules in
    close_turned _ _ _ _ (rw c.limit.ensures at c.if-out-limit.false) c.if-clock-r.false whole c.lapse-q.ensures
    c.find.ensures c.place_number-i.ensures c.place_of.ensures c.close_turn-t.ensures c.turned.ensures
