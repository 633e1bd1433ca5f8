-- `after` meets its contract.
use Rattle.hall.proofs.StateLaws.{both_parts}
use Rattle.hall.proofs.at_router.after.Goals as goal

pub returns : goal.returns
returns c = both_parts c.with_router.ensures c.said.ensures
