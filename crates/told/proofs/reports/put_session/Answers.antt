-- `put_session` meets its contract.
use Rattle.told.proofs.PutsLaws.{puts_both}
use Rattle.told.specs.Report.{session_text}
use Rattle.told.proofs.reports.put_session.Goals as goal

pub returns-then-not-s : goal.returns-then-not-s
unfolding session_text
returns-then-not-s c = rw c.if-not-s.true c.next_none.ensures

pub returns : goal.returns
unfolding session_text
returns c = rw c.if-not-s.false
    (puts_both (puts_both (puts_both c.next_decimal-stamp.ensures c.next_hex-check.ensures) c.next_hex-key.ensures) c.next_decimal.ensures)
