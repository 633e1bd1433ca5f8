-- `settled` meets its contract.
use Rattle.settling.proofs.settled.Goals as goal

pub returns : goal.returns
returns c = rw (c.kept.ensures, c.none.ensures)
