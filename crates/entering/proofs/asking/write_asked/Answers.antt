-- `write_asked` meets its contract: it is written with its Authenticator zero, and then sealed.
use Rattle.entering.proofs.SealLaws.{seal_refused, seal_bytes}
use Rattle.entering.proofs.AskedLaws.{asked_written, asked_sealed}
use Rattle.entering.proofs.asking.write_asked.Goals as goal

pub returns-in-Err : goal.returns-in-Err
returns-in-Err c = asked_sealed _ _ _ _ _ (seal_refused _
    (asked_written _ _ _ _ _ c.requires.vouched.name c.fields_for.ensures c.bytes_at.ensures c.in-Err.is
    c.write_access_request.ensures))

pub returns-in-Ok : goal.returns-in-Ok
returns-in-Ok c = asked_sealed _ _ _ _ _ (seal_bytes _
    (asked_written _ _ _ _ _ c.requires.vouched.name c.fields_for.ensures c.bytes_at.ensures c.in-Ok.is
    c.write_access_request.ensures) (rw c.as_slice.ensures at c.seal.ensures))
