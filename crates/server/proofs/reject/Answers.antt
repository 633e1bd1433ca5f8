-- `reject` meets its contract.
use Rattle.server.proofs.SendLaws.{reject_sends}
use Rattle.server.proofs.reject.Goals as goal

pub returns : goal.returns
returns c = let a = c.args in
    reject_sends a.secret.now a.out.now a.identifier c.write_reject-w.ensures c.requires c.sealed_answer.ensures
