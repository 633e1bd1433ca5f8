-- `hand_back` meets its contract.
use mathlib.Core.Path.{sym, ◌∙◌}
use Rattle.shell.proofs.ShellLaws.{hands_back}
use Rattle.lentnode.proofs.hand_back.Goals as goal

pub returns : goal.returns
returns c = hands_back c.bytes-t.ensures (c.requires ∙ sym c.bytes-t.type_inv.1.0.1) c.give_back.ensures
