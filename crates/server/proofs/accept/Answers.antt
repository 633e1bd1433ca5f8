-- `accept` meets its contract.
use Rattle.server.proofs.SendLaws.{accept_sends}
use Rattle.server.proofs.accept.Goals as goal

pub returns : goal.returns
returns c = let a = c.args in
    accept_sends a.secret.now a.password.now a.check a.seed a.out.now a.identifier c.session_key.ensures c.mask-key.ensures
    c.write_accept-w.ensures c.requires c.sealed_answer.ensures
