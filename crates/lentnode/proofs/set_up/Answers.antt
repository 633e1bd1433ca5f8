-- `set_up` meets its contract.
use mathlib.Core.Path.{sym, ◌∙◌}
use Rattle.shell.proofs.ShellLaws.{misused_setup, set_up_made, made_bytes, made_none}
use Rattle.lentnode.proofs.set_up.Goals as goal

pub returns-then-state-ne-SIZE : goal.returns-then-state-ne-SIZE
returns-then-state-ne-SIZE c = misused_setup c.if-state-ne-SIZE.true

pub returns-in-Err : goal.returns-in-Err
returns-in-Err c = rw (sym c.set_up-made.ensures ∙ c.in-Err.is) (set_up_made c.if-state-ne-SIZE.false c.coded.ensures (made_none _))

pub returns-in-Ok : goal.returns-in-Ok
returns-in-Ok c = let made = made_bytes _ c.bytes.ensures (c.if-state-ne-SIZE.false ∙ sym c.bytes.type_inv.1.0.1) c.put_bytes.ensures in
    rw (sym c.set_up-made.ensures ∙ c.in-Ok.is) (set_up_made c.if-state-ne-SIZE.false c.coded-in-Ok.ensures made)
