-- `node_of` meets its contract.
use mathlib.Core.Path.{ap, ◌∙◌}
use Rattle.storednode.specs.Node.{node_from}
use Rattle.hall.specs.State.{node_of}
use Rattle.hall.proofs.StayLaws.{past_read}
use borrow.Author.Rules.{rules}
use Rattle.hall.proofs.state.node_of.Goals as goal

pub returns : goal.returns
unfolding node_of
returns c = c.load.ensures ∙ ap node_from (c.part.ensures ∙ (rw c.start.ensures (past_read c.args.i c.args.hall.nodes (search rules))))
