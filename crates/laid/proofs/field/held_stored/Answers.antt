-- `held_stored` meets its contract: its fields, one after the other.
use mathlib.Core.Path.{◌≡◌}
use lib.ListN.{length}
use borrow.Author.Rules.{rules}
use Rattle.laid.specs.Field.{held_stored}
use Rattle.laid.proofs.FieldLaws.{filled_zeros, filled_number, filled_array, filled_all}
use Rattle.laid.proofs.field.held_stored.Goals as goal

pub returns : goal.returns
unfolding held_stored
returns c =
    let h = c.args.h in
    let whole : length h.bytes ≡ 253 = search rules in
    let w₀ = filled_zeros 261 in
    let w₁ = filled_array w₀ h.bytes 253 whole tt c.put_bytes.ensures in
    let w₂ = filled_number w₁ 8 h.size tt c.put_number.ensures in
    filled_all w₂
