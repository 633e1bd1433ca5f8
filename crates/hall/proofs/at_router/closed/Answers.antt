-- `closed` meets its contract.
use Rattle.refusal.proofs.StepLaws.{leaves_told}
use Rattle.hall.proofs.CallLaws.{router_absent, router_called}
use mathlib.Core.List.{[]}
use Rattle.places.specs.declared.state.Router.{Router}
use Rattle.router.specs.Close.{closed}
use Rattle.hall.proofs.at_router.closed.Goals as goal

pub returns-then-not-hall : goal.returns-then-not-hall
returns-then-not-hall c = let a = c.args in
    (router_absent a.hall (λ (r : Router). closed r a.clock a.from a.m.now) [] c.if-not-hall.true c.unread.ensures).told

pub returns : goal.returns
returns c = let a = c.args in
    (router_called a.hall (λ (r : Router). closed r a.clock a.from a.m.now) [] c.if-not-hall.false c.router_of-r.ensures
    (leaves_told c.closed.ensures) c.after.ensures).told
