-- `waiting_bytes` meets its contract: its fields, one after the other.
use mathlib.Core.Path.{◌≡◌}
use lib.ListN.{length}
use borrow.Author.Rules.{rules}
use Rattle.laid.proofs.FieldLaws.{filled_zeros, filled_flag, filled_number, filled_array, filled_all}
use Rattle.storednode.specs.Node.{waiting_bytes}
use Rattle.storednode.proofs.node_state.waiting_bytes.Goals as goal

pub returns : goal.returns
unfolding waiting_bytes
returns c =
    let key_long : length c.args.w.key ≡ 16 = search rules in
    let w = c.args.w in
    let w₀ = filled_zeros 25 in
    let w₁ = filled_flag w₀ w.live tt c.put.ensures in
    let w₂ = filled_number w₁ 8 w.stamp tt c.put-2.ensures in
    let w₃ = filled_array w₂ w.key 16 key_long tt c.put-3.ensures in
    filled_all w₃
