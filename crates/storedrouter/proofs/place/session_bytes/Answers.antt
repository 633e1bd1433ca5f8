-- `session_bytes` meets its contract: its fields, one after the other.
use mathlib.Core.Path.{◌≡◌}
use lib.ListN.{length}
use borrow.Author.Rules.{rules}
use Rattle.laid.proofs.FieldLaws.{filled_zeros, filled_flag, filled_number, filled_array, filled_all}
use Rattle.storedrouter.specs.Place.{session_bytes}
use Rattle.storedrouter.proofs.place.session_bytes.Goals as goal

pub returns : goal.returns
unfolding session_bytes
returns c =
    let check_long : length c.args.v.check ≡ 16 = search rules in
    let key_long : length c.args.v.key ≡ 16 = search rules in
    let v = c.args.v in
    let w₀ = filled_zeros 49 in
    let w₁ = filled_flag w₀ v.live tt c.put.ensures in
    let w₂ = filled_number w₁ 8 v.stamp tt c.put-2.ensures in
    let w₃ = filled_array w₂ v.check 16 check_long tt c.put-3.ensures in
    let w₄ = filled_array w₃ v.key 16 key_long tt c.put-4.ensures in
    let w₅ = filled_number w₄ 8 v.since tt c.put-5.ensures in
    filled_all w₅
