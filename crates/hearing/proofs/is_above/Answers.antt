-- `is_above` meets its contract.
use Rattle.hearing.proofs.is_above.Goals as goal

pub returns-in-Some : goal.returns-in-Some
returns-in-Some c = rw c.in-Some.is
