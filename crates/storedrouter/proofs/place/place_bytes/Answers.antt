-- `place_bytes` meets its contract: its fields, one after the other.
use mathlib.Core.Path.{◌≡◌}
use lib.ListN.{length}
use borrow.Author.Rules.{rules}
use Rattle.laid.proofs.FieldLaws.{filled_zeros, filled_flag, filled_number, filled_array, filled_next, filled_all}
use Rattle.storedrouter.specs.Place.{place_bytes, attempt_bytes, session_bytes}
use Rattle.storedrouter.proofs.place.place_bytes.Goals as goal

pub returns : goal.returns
unfolding place_bytes
returns c =
    let address_long : length c.args.p.address ≡ 6 = search rules in
    let p = c.args.p in
    let w₀ = filled_zeros 89 in
    let w₁ = filled_flag w₀ p.taken tt c.put.ensures in
    let w₂ = filled_array w₁ p.address 6 address_long tt c.put-2.ensures in
    let w₃ = filled_number w₂ 8 p.last tt c.put-3.ensures in
    let w₄ = filled_next w₃ (attempt_bytes p.attempt) 25 c.attempt_bytes.ensures (search rules) tt c.put_bytes.ensures in
    let w₅ = filled_next w₄ (session_bytes p.session) 49 c.session_bytes.ensures (search rules) tt c.put_bytes-2.ensures in
    filled_all w₅
