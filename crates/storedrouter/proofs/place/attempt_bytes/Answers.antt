-- `attempt_bytes` meets its contract: its fields, one after the other.
use mathlib.Core.Path.{◌≡◌}
use lib.ListN.{length}
use borrow.Author.Rules.{rules}
use Rattle.laid.proofs.FieldLaws.{filled_zeros, filled_flag, filled_number, filled_array, filled_all}
use Rattle.storedrouter.specs.Place.{attempt_bytes}
use Rattle.storedrouter.proofs.place.attempt_bytes.Goals as goal

pub returns : goal.returns
unfolding attempt_bytes
returns c =
    let check_long : length c.args.a.check ≡ 16 = search rules in
    let a = c.args.a in
    let w₀ = filled_zeros 25 in
    let w₁ = filled_flag w₀ a.waiting tt c.put.ensures in
    let w₂ = filled_number w₁ 8 a.stamp tt c.put-2.ensures in
    let w₃ = filled_array w₂ a.check 16 check_long tt c.put-3.ensures in
    filled_all w₃
