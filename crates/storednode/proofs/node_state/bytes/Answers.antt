-- `bytes` meets its contract: its fields, one after the other.
use mathlib.Core.Path.{ap, ◌∙◌}
use borrow.Author.Rules.{rules}
use Rattle.laid.proofs.FieldLaws.{filled_zeros, filled_number, filled_next, filled_all}
use Rattle.storednode.specs.Node.{node_bytes, node_from, session_bytes, waiting_bytes, used_bytes, settings_bytes}
use Rattle.storednode.proofs.NodeLaws.{node_undone}
use Rattle.storednode.proofs.TypeLaws.{node_typed}
use Rattle.storednode.proofs.node_state.bytes.Goals as goal

pub returns : goal.returns
unfolding node_bytes
returns c = let n = c.args.n in
    let w₀ = filled_zeros 623 in
    let w₁ = filled_next w₀ (settings_bytes n.settings) 546 c.settings_bytes.ensures (search rules) tt c.put_bytes.ensures in
    let w₂ = filled_number w₁ 8 n.clock tt c.put.ensures in
    let w₃ = filled_next w₂ (used_bytes n.used) 9 c.used_bytes.ensures (search rules) tt c.put_bytes-2.ensures in
    let w₄ = filled_next w₃ (waiting_bytes n.waiting) 25 c.waiting_bytes.ensures (search rules) tt c.put_bytes-3.ensures in
    let w₅ = filled_next w₄ (session_bytes n.session) 35 c.session_bytes.ensures (search rules) tt c.put_bytes-4.ensures in
    let e = filled_all w₅ in
    record { is = e; again = ap node_from e ∙ node_undone n (node_typed n _ c.well_formed.0) }
