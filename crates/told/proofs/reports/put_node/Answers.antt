-- `put_node` meets its contract.
use Rattle.told.proofs.PutsLaws.{puts_both}
use Rattle.told.specs.Report.{node_text}
use Rattle.told.proofs.reports.put_node.Goals as goal

pub returns : goal.returns
unfolding node_text
returns c = puts_both (puts_both (puts_both (puts_both c.put_decimal-clock.ensures c.put_used-used.ensures) c.put_waiting-waiting.ensures) c.put_open-session.ensures) c.put.ensures
