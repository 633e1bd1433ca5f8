-- `router_of` meets its contract.
use Rattle.hall.specs.State.{router_of}
use Rattle.hall.proofs.state.router_of.Goals as goal

pub returns : goal.returns
unfolding router_of
returns c = c.load.ensures
