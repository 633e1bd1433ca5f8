-- `leave_now` meets its contract, exit by exit.
use Rattle.leaving.proofs.LeavingLaws.{leave_none, leave_sent, leave_unrefused}
use Rattle.leaving.proofs.leave_now.Goals as goal

pub returns-then-not-n : goal.returns-then-not-n
returns-then-not-n c = leave_none _ _ c.if-not-n.true c.refused.ensures

pub returns-in-Err : goal.returns-in-Err
returns-in-Err c = absurd (leave_unrefused c.args.n c.args.out.now c.requires c.write_terminating.ensures c.in-Err.is)

pub returns-in-Ok : goal.returns-in-Ok
returns-in-Ok c = leave_sent _ _ c.if-not-n.false c.write_terminating.ensures c.in-Ok.is
    c.no_session.ensures c.with_session.ensures c.send.ensures
