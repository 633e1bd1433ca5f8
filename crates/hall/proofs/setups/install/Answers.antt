-- `install` meets its contract.
use Rattle.hall.specs.State.{installs}
use Rattle.hall.proofs.setups.install.Goals as goal

pub returns-in-Err : goal.returns-in-Err
unfolding installs
returns-in-Err c = rw (c.in-Err.is, c.silent.ensures)

pub returns-in-Ok : goal.returns-in-Ok
unfolding installs
returns-in-Ok c = rw (c.in-Ok.is, c.with_router.ensures, c.silent-in-Ok.ensures)
