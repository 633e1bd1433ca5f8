-- `closed_place` meets its contract.
use Rattle.router.specs.Close.{closed_place}
use Rattle.router.proofs.close.closed_place.Goals as goal

pub returns : goal.returns
unfolding closed_place
returns c = rw (c.kept.ensures, c.none.ensures)
