-- `set_up` meets its contract: another size, or the state made is stored.
use Rattle.std.proofs.Common.{length, ◌≡◌, rules, sym, ◌∙◌}
use Rattle.shell.proofs.ShellLaws.{misused_setup, set_up_made, made_bytes, made_none}
use Rattle.lentrouter.proofs.set_up.Goals as goal

pub returns-then-state-ne-SIZE : goal.returns-then-state-ne-SIZE
returns-then-state-ne-SIZE c = misused_setup c.if-state-ne-SIZE.true

pub returns-in-Err : goal.returns-in-Err
returns-in-Err c =
    rw (sym c.read-place.ensures, sym c.set_up-made.ensures ∙ c.in-Err.is)
    (set_up_made c.if-state-ne-SIZE.false c.coded.ensures (made_none _))

pub returns-in-Ok : goal.returns-in-Ok
returns-in-Ok c =
    let sized : length c.bytes.result ≡ 6075 = search rules in
    let fits = c.if-state-ne-SIZE.false in
    rw (sym c.read-place.ensures, sym c.set_up-made.ensures ∙ c.in-Ok.is)
    (set_up_made fits c.coded-in-Ok.ensures (made_bytes _ c.bytes.ensures (fits ∙ sym sized) c.put_bytes.ensures))
