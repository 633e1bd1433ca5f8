-- `next_hex` meets its contract.
use Rattle.told.proofs.PutsLaws.{puts_both}
use Rattle.told.proofs.printing.next_hex.Goals as goal

pub returns : goal.returns
returns c = puts_both c.put-space.ensures c.put_hex.ensures
