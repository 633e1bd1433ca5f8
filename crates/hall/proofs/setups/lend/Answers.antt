-- `lend` meets its contract.
use mathlib.Core.Path.{refl}
use Rattle.hall.specs.State.{lends}
use Rattle.hall.proofs.StateLaws.{both_parts}
use Rattle.hall.proofs.setups.lend.Goals as goal

pub returns : goal.returns
unfolding lends
returns c = both_parts refl c.silent.ensures
