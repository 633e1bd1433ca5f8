-- `write_reject` meets its contract.
use Rattle.octets.proofs.BytesLaws.{bytes_known}
use Rattle.object.specs.declared.family.Family.TheVariants.{Misauth}
use Rattle.message.specs.Laid.{laid_all}
use Rattle.message.proofs.WritingLaws.{writes_same, writes_small}
use Rattle.misauth.specs.Run.{is_run}
use Rattle.misauth.proofs.RejectLaws.{reject_run}
use Rattle.misauth.proofs.reject.write_reject.Goals as goal

pub returns-then-out-limit : goal.returns-then-out-limit
returns-then-out-limit c = writes_small Misauth _ _ _ c.limit.ensures c.if-out-limit.true

pub returns : goal.returns
unfolding laid_all
returns c = let a = c.args in
    writes_same Misauth (is_run 33 a.proxies.now) _ _ (reject_run a.identifier a.proxies.now (bytes_known a.proxies.now c.type_inv.proxies))
    (rw (← c.is_run.ensures) c.write.ensures)
