-- `empty` meets its contract.
use mathlib.Core.Path.{refl}
use Rattle.hall.specs.State.{empty_hall}
use Rattle.hall.proofs.state.empty.Goals as goal

pub returns : goal.returns
unfolding empty_hall
returns c = refl
