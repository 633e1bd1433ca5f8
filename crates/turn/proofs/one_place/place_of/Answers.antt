-- `place_of` meets its contract.
use mathlib.Core.Path.{◌∙◌}
use borrow.Author.Rules.{rules}
use Rattle.turn.proofs.TurnLaws.{place_within, place_past}
use Rattle.turn.proofs.one_place.place_of.Goals as goal

pub returns-then-i-lt-COUNT : goal.returns-then-i-lt-COUNT
returns-then-i-lt-COUNT c =
    place_within c.args.r c.args.i (search rules) c.if-i-lt-COUNT.true

pub returns-else-i-lt-COUNT : goal.returns-else-i-lt-COUNT
returns-else-i-lt-COUNT c =
    c.fresh.ensures ∙ place_past c.args.r c.args.i (search rules) c.if-i-lt-COUNT.false
