-- `put_place` meets its contract.
use Rattle.told.proofs.PutsLaws.{puts_both, puts_none}
use Rattle.told.specs.Report.{place_text}
use Rattle.told.proofs.reports.put_place.Goals as goal

pub returns-then-not-p : goal.returns-then-not-p
unfolding place_text
returns-then-not-p c = rw c.if-not-p.true puts_none

pub returns : goal.returns
unfolding place_text
returns c = rw c.if-not-p.false
    (puts_both (puts_both (puts_both (puts_both (puts_both c.put_decimal-number.ensures c.next_hex-address.ensures) c.next_decimal-last.ensures) c.put_attempt-attempt.ensures) c.put_session-session.ensures) c.put.ensures)
