-- `ask` meets its contract: the request is written, or the account has no name's length.
use Rattle.hearing.proofs.HearLaws.{request_sent, request_unsent}
use Rattle.hearing.proofs.ask.Goals as goal

pub returns-in-Err : goal.returns-in-Err
returns-in-Err c = let a = c.args in
    request_unsent a.n a.seed a.stamp c.requires c.write_request.ensures c.in-Err.is c.refused.ensures

pub returns-in-Ok : goal.returns-in-Ok
returns-in-Ok c = let a = c.args in
    request_sent a.n a.seed a.stamp c.write_request.ensures c.in-Ok.is c.waits.ensures c.send.ensures
