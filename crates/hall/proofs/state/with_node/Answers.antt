-- `with_node` meets its contract.
use Prim.Native.Nat.{ℕ, ◌*◌}
use mathlib.Core.Path.{ap, ◌∙◌}
use Rattle.octets.specs.Put.{put_in}
use Rattle.storednode.specs.Node.{node_size}
use Rattle.hall.specs.State.{with_node}
use Rattle.hall.proofs.StayLaws.{past_put}
use borrow.Author.Rules.{rules}
use Rattle.hall.proofs.state.with_node.Goals as goal

pub returns : goal.returns
unfolding with_node
returns c = let h = c.args.hall in
    let i = c.args.i in
    let nodes =
    c.put_bytes-2.ensures
    ∙ ap (λ (at : ℕ). put_in h.nodes at c.bytes-state.result) c.start.ensures
    ∙ past_put i h.nodes (search rules) c.bytes-state.result c.bytes-state.type_inv.1.0.1
    ∙ ap (put_in h.nodes (i * node_size)) c.bytes-state.ensures.is in
    λ j. record { installed = h.installed; router = h.router; present = c.put_bytes.ensures j; nodes = nodes j; lent = h.lent; mill = h.mill; visitors = h.visitors; room = h.room }
