-- `closed` meets its contract: 7, then the turn of the place.
use mathlib.Core.Path.{◌≡◌, ◌∙◌}
use lib.ListN.{length}
use borrow.Author.Rules.{rules}
use Rattle.message.proofs.BeginLaws.{clock_behind}
use Rattle.router.specs.Close.{closed}
use Rattle.router.proofs.CloseLaws.{closed_turned}
use Rattle.router.proofs.close.closed.Goals as goal

pub returns-then-clock-r : goal.returns-then-clock-r
unfolding closed
returns-then-clock-r c = c.refused.ensures ∙ clock_behind _ _ c.if-clock-r.true

pub returns : goal.returns
returns c =
    let whole : length c.args.r.places ≡ 64 = search rules in
    closed_turned _ _ _ _ c.if-clock-r.false whole c.lapse-q.ensures c.find.ensures c.place_number-i.ensures
    c.place_of.ensures c.closed_turn-t.ensures c.turned.ensures
