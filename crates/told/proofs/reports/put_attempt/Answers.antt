-- `put_attempt` meets its contract.
use Rattle.told.proofs.PutsLaws.{puts_both}
use Rattle.told.specs.Report.{attempt_text}
use Rattle.told.proofs.reports.put_attempt.Goals as goal

pub returns-then-not-a : goal.returns-then-not-a
unfolding attempt_text
returns-then-not-a c = rw c.if-not-a.true c.next_none.ensures

pub returns : goal.returns
unfolding attempt_text
returns c = rw c.if-not-a.false (puts_both c.next_decimal-stamp.ensures c.next_hex.ensures)
