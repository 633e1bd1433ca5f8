-- `is_present` meets its contract.
use Rattle.hall.specs.State.{is_present}
use Rattle.hall.proofs.state.is_present.Goals as goal

pub returns : goal.returns
unfolding is_present
returns c = c.flag.ensures
