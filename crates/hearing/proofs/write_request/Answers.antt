-- `write_request` meets its contract.
use Rattle.hearing.proofs.HearLaws.{request_writes}
use Rattle.hearing.proofs.write_request.Goals as goal

pub returns : goal.returns
returns c = let a = c.args in
    request_writes a.n a.seed a.stamp c.as_slice.ensures c.as_slice-2.ensures c.write_request.ensures
