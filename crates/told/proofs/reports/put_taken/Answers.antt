-- `put_taken` meets its contract.
use mathlib.Core.Path.{ap}
use Rattle.told.proofs.PutsLaws.{puts_both}
use Rattle.places.specs.declared.state.Report.{Report}
use Rattle.told.specs.Report.{taken_text}
use Rattle.told.proofs.reports.put_taken.Goals as goal

pub returns : goal.returns
unfolding taken_text
returns c = let e = c.taken-report.ensures in rw (← (ap (λ (t : Report). t.word) e), ← (ap (λ (t : Report). t.count) e)) (puts_both (puts_both c.put_decimal-word.ensures c.next_decimal-count.ensures) c.put.ensures)
