-- `turned` meets its contract.
use mathlib.Core.Path.{refl, ap}
use borrow.Author.Rules.{rules}
use Rattle.places.specs.declared.state.Router.{Router}
use Rattle.turn.specs.Outcome.{with_place}
use Rattle.turn.proofs.TurnLaws.{with_past}
use Rattle.turn.proofs.one_place.turned.Goals as goal

pub returns-then-i-lt-COUNT : goal.returns-then-i-lt-COUNT
unfolding with_place
returns-then-i-lt-COUNT c = refl

pub returns-else-i-lt-COUNT : goal.returns-else-i-lt-COUNT
returns-else-i-lt-COUNT c =
    let t = c.args.t in
    ap (λ (q : Router). record { answer = t.answer; state = q; written = t.written; to = t.to })
    (with_past c.args.q c.args.i (search rules) c.if-i-lt-COUNT.false t.state)
