-- `close` meets its contract.
use Rattle.hall.proofs.CallLaws.{router_absent, router_called}
use Rattle.hall.proofs.at_router.close.Goals as goal

pub returns-then-not-hall : goal.returns-then-not-hall
returns-then-not-hall c = router_absent _ _ _ c.if-not-hall.true c.unread.ensures

pub returns : goal.returns
returns c = router_called _ _ _ c.if-not-hall.false c.router_of-r.ensures c.close.ensures c.after.ensures
