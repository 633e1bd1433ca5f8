-- `after` meets its contract.
use Rattle.hall.proofs.StateLaws.{both_parts}
use Rattle.hall.proofs.at_node.after.Goals as goal

pub returns : goal.returns
returns c = both_parts c.with_node.ensures c.said.ensures
