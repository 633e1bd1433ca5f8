-- `Node::fresh` meets its contract.
use Rattle.node.proofs.Node.fresh.Goals as goal

pub returns : goal.returns
returns c = rw (c.no_session.ensures, c.no_waiting.ensures)
