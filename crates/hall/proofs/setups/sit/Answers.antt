-- `sit` meets its contract.
use Rattle.hall.specs.State.{sits}
use mathlib.Core.Path.{sym, ◌∙◌}
use borrow.Author.Tests.{le-ltb, lt-ltb}
use Rattle.octets.proofs.ChoiceLaws.{pick_false}
use Rattle.hall.proofs.setups.sit.Goals as goal

pub returns-then-i-ge-NODES : goal.returns-then-i-ge-NODES
unfolding sits
returns-then-i-ge-NODES c = c.unread.ensures ∙ sym (pick_false _ _ _ (le-ltb c.args.i 8 c.if-i-ge-NODES.true))

pub returns-in-Err : goal.returns-in-Err
unfolding sits
returns-in-Err c = rw (c.in-Err.is, c.silent.ensures, lt-ltb c.args.i 8 c.if-i-ge-NODES.false)

pub returns-in-Ok : goal.returns-in-Ok
unfolding sits
returns-in-Ok c = rw (c.in-Ok.is, c.with_node.ensures, c.silent-in-Ok.ensures, lt-ltb c.args.i 8 c.if-i-ge-NODES.false)
