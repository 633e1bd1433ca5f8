-- `settings_bytes` meets its contract: its fields, one after the other.
use mathlib.Core.Path.{◌≡◌}
use lib.ListN.{length}
use borrow.Author.Rules.{rules}
use Rattle.laid.specs.Field.{held_stored}
use Rattle.laid.specs.Around.{held_length}
use Rattle.laid.proofs.FieldLaws.{filled_zeros, filled_number, filled_array, filled_next, filled_all}
use Rattle.storedrouter.specs.Settings.{settings_bytes, position_stored}
use Rattle.storedrouter.proofs.TypeLaws.{settings_typed}
use Rattle.storedrouter.proofs.settings.settings_bytes.Goals as goal

pub returns : goal.returns
unfolding settings_bytes
returns c =
    let address_long : length c.args.v.address ≡ 6 = search rules in
    let ipv4_long : length c.args.v.ipv4 ≡ 4 = search rules in
    let groups_long : length c.args.v.groups ≡ 64 = search rules in
    let v = c.args.v in
    let secret_long = held_length v.secret (settings_typed v _ c.well_formed.0).secret in
    let w₀ = filled_zeros 371 in
    let w₁ = filled_number w₀ 4 v.window tt c.put.ensures in
    let w₂ = filled_number w₁ 4 v.unit tt c.put-2.ensures in
    let w₃ = filled_number w₂ 2 v.lifetime tt c.put-3.ensures in
    let w₄ = filled_number w₃ 2 v.network tt c.put-4.ensures in
    let w₅ = filled_array w₄ v.address 6 address_long tt c.put-5.ensures in
    let w₆ = filled_array w₅ v.ipv4 4 ipv4_long tt c.put-6.ensures in
    let w₇ = filled_array w₆ (held_stored v.secret) 261 secret_long tt c.put-7.ensures in
    let w₈ = filled_next w₇ (position_stored v.position) 14 c.position_bytes.ensures (search rules) tt c.put_bytes.ensures in
    let w₉ = filled_number w₈ 2 v.interval tt c.put-8.ensures in
    let w₁₀ = filled_array w₉ v.groups 64 groups_long tt c.put-9.ensures in
    let w₁₁ = filled_number w₁₀ 8 v.grouped tt c.put-10.ensures in
    filled_all w₁₁
