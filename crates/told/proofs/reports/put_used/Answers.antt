-- `put_used` meets its contract.
use Rattle.told.specs.Report.{used_text}
use Rattle.told.proofs.reports.put_used.Goals as goal

pub returns-in-None : goal.returns-in-None
unfolding used_text
returns-in-None c = rw c.in-None.is c.next_none.ensures

pub returns-in-Some : goal.returns-in-Some
unfolding used_text
returns-in-Some c = rw c.in-Some.is c.next_decimal.ensures
