-- `settings_bytes` meets its contract: its fields, one after the other.
use mathlib.Core.Path.{◌≡◌}
use lib.ListN.{length}
use borrow.Author.Rules.{rules}
use Rattle.laid.specs.Field.{held_stored}
use Rattle.laid.specs.Around.{held_length}
use Rattle.laid.proofs.FieldLaws.{filled_zeros, filled_number, filled_array, filled_all}
use Rattle.storednode.specs.Node.{settings_bytes}
use Rattle.storednode.proofs.TypeLaws.{settings_typed}
use Rattle.storednode.proofs.node_state.settings_bytes.Goals as goal

pub returns : goal.returns
unfolding settings_bytes
returns c =
    let address_long : length c.args.v.address ≡ 6 = search rules in
    let router_long : length c.args.v.router ≡ 6 = search rules in
    let v = c.args.v in
    let held = settings_typed v _ c.well_formed.0 in
    let password_long = held_length v.password held.password in
    let account_long = held_length v.account held.account in
    let w₀ = filled_zeros 546 in
    let w₁ = filled_number w₀ 4 v.unit tt c.put.ensures in
    let w₂ = filled_number w₁ 4 v.patience tt c.put-2.ensures in
    let w₃ = filled_array w₂ (held_stored v.password) 261 password_long tt c.put-3.ensures in
    let w₄ = filled_array w₃ (held_stored v.account) 261 account_long tt c.put-4.ensures in
    let w₅ = filled_number w₄ 2 v.kind tt c.put-5.ensures in
    let w₆ = filled_number w₅ 2 v.network tt c.put-6.ensures in
    let w₇ = filled_array w₆ v.address 6 address_long tt c.put-7.ensures in
    let w₈ = filled_array w₇ v.router 6 router_long tt c.put-8.ensures in
    filled_all w₈
