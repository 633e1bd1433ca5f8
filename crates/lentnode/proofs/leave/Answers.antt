-- `leave` meets its contract.
use mathlib.Core.Path.{sym}
use Rattle.shell.proofs.ShellLaws.{misused}
use Rattle.lentnode.proofs.HandedLaws.{node_left}
use Rattle.lentnode.proofs.leave.Goals as goal

pub returns-then-state-ne-SIZE : goal.returns-then-state-ne-SIZE
returns-then-state-ne-SIZE c = misused c.if-state-ne-SIZE.true

pub returns : goal.returns
returns c = rw (sym c.load.ensures) (node_left c.if-state-ne-SIZE.false c.leave-o.ensures c.hand_back.ensures)
