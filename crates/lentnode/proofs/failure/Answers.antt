-- `failure` meets its contract.
use mathlib.Core.Path.{sym}
use Rattle.shell.proofs.ShellLaws.{misused_quietly, handed_quietly}
use Rattle.lentnode.proofs.failure.Goals as goal

pub returns-then-state-ne-SIZE : goal.returns-then-state-ne-SIZE
returns-then-state-ne-SIZE c = misused_quietly c.if-state-ne-SIZE.true

pub returns : goal.returns
returns c = rw (sym c.load.ensures, sym c.failure-o.ensures) (handed_quietly c.if-state-ne-SIZE.false c.hand_back.ensures)
