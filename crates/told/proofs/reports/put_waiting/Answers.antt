-- `put_waiting` meets its contract.
use Rattle.told.specs.Report.{waiting_text}
use Rattle.told.proofs.reports.put_waiting.Goals as goal

pub returns-then-w : goal.returns-then-w
unfolding waiting_text
returns-then-w c = rw c.if-w.true c.next_decimal.ensures

pub returns-else-w : goal.returns-else-w
unfolding waiting_text
returns-else-w c = rw c.if-w.false c.next_none.ensures
