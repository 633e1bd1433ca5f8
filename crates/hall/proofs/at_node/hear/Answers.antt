-- `hear` meets its contract.
use mathlib.Core.Bool.{not}
use mathlib.Core.Path.{ap}
use Rattle.hall.proofs.CallLaws.{node_absent, node_called}
use Rattle.hall.proofs.at_node.hear.Goals as goal

pub returns-then-not-is_present : goal.returns-then-not-is_present
returns-then-not-is_present c = node_absent _ _ _ _ c.is_present.ensures (ap not c.if-not-is_present.true) c.unread.ensures

pub returns : goal.returns
returns c = node_called _ _ _ _ c.is_present.ensures (ap not c.if-not-is_present.false) c.node_of-n.ensures c.hear.ensures
    c.after.ensures
