-- `write_success` meets its contract.
use Rattle.turn.specs.Writes.{success_for}
use Rattle.turn.proofs.parts.write_success.Goals as goal

pub returns : goal.returns
unfolding success_for
returns c = c.write_success.ensures
