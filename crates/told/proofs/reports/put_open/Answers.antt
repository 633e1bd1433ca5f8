-- `put_open` meets its contract.
use Rattle.told.proofs.PutsLaws.{puts_both}
use Rattle.told.specs.Report.{open_text}
use Rattle.told.proofs.reports.put_open.Goals as goal

pub returns-then-not-s : goal.returns-then-not-s
unfolding open_text
returns-then-not-s c = rw c.if-not-s.true c.next_none.ensures

pub returns : goal.returns
unfolding open_text
returns c = rw c.if-not-s.false
    (puts_both (puts_both (puts_both c.next_decimal-stamp.ensures c.next_hex-key.ensures) c.next_decimal-since.ensures) c.next_decimal.ensures)
