-- `login` meets its contract.
use Rattle.hall.proofs.CallLaws.{server_absent, server_called}
use Rattle.hall.proofs.at_server.login.Goals as goal

pub returns-then-not-hall : goal.returns-then-not-hall
returns-then-not-hall c = server_absent _ _ _ _ _ c.if-not-hall.true c.unread.ensures

pub returns : goal.returns
returns c = server_called _ _ _ _ _ c.if-not-hall.false c.part-mill.ensures c.part-visitors.ensures c.login.ensures
    c.after.ensures
