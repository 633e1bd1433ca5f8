-- `reply` meets its contract.
use Rattle.hall.proofs.CallLaws.{router_absent, router_called}
use Rattle.hall.proofs.at_router.reply.Goals as goal

pub returns-then-not-hall : goal.returns-then-not-hall
returns-then-not-hall c = router_absent _ _ _ c.if-not-hall.true c.unread.ensures

pub returns : goal.returns
returns c = router_called _ _ _ c.if-not-hall.false c.router_of-r.ensures c.reply.ensures c.after.ensures
