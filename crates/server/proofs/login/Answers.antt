-- `login` meets its contract.
use mathlib.Core.Path.{refl, sym, ◌∙◌}
use Rattle.refusal.proofs.StepLaws.{leaves_same}
use Rattle.message.proofs.BeginLaws.{room_small}
use Rattle.server.specs.Login.{logged_in}
use Rattle.server.proofs.StepLaws.{leaves_refused, broken_mill, broken_visitors, bad_header, good_header}
use Rattle.server.proofs.login.Goals as goal

pub returns-then-out-limit : goal.returns-then-out-limit
unfolding logged_in
returns-then-out-limit c = room_small _ _ (rw c.limit.ensures at c.if-out-limit.true) refl

pub returns-then-not-whole : goal.returns-then-not-whole
returns-then-not-whole c = leaves_refused
    (broken_mill _ _ _ _ _ c.limit.ensures c.if-out-limit.false (sym c.whole.ensures ∙ c.if-not-whole.true))

pub returns-then-not-whole-2 : goal.returns-then-not-whole-2
returns-then-not-whole-2 c = leaves_refused
    (broken_visitors _ _ _ _ _ c.limit.ensures c.if-out-limit.false (sym c.whole-2.ensures ∙ c.if-not-whole-2.true))

pub returns-in-Err : goal.returns-in-Err
returns-in-Err c =
    leaves_refused
    (bad_header _ _ _ _ _ c.limit.ensures c.if-out-limit.false (sym c.whole.ensures ∙ c.if-not-whole.false)
    (sym c.whole-2.ensures ∙ c.if-not-whole-2.false) (sym c.head.ensures ∙ c.in-Err.is))

pub returns : goal.returns
returns c =
    leaves_same
    (good_header _ _ _ _ _ c.limit.ensures c.if-out-limit.false (sym c.whole.ensures ∙ c.if-not-whole.false)
    (sym c.whole-2.ensures ∙ c.if-not-whole-2.false) (sym c.head.ensures ∙ c.in-Ok.is))
    c.judge.ensures
