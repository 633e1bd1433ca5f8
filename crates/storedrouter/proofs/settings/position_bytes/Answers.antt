-- `position_bytes` meets its contract: its fields, one after the other.
use mathlib.Core.Path.{◌≡◌, ap}
use mir.Syntax.{w16}
use mir.Val.{to_z, of_z}
use borrow.Author.Rules.{rules}
use Rattle.octets.specs.Numbers.{unsigned_of}
use Rattle.laid.proofs.FieldLaws.{filled_zeros, filled_next, filled_same, filled_all}
use Rattle.storedrouter.specs.Settings.{angle_bytes, position_stored}
use Rattle.storedrouter.proofs.settings.position_bytes.Goals as goal

pub returns : goal.returns
unfolding position_stored
returns c = let p = c.args.p in
    let land : to_z w16 (of_z w16 p.land) ≡ p.land = search rules in
    let sea : to_z w16 (of_z w16 p.sea) ≡ p.sea = search rules in
    let w₁ = filled_next (filled_zeros 14) (angle_bytes p.latitude) 5 c.angle_bytes.ensures (search rules) tt c.put_bytes.ensures in
    let w₂ = filled_next w₁ (angle_bytes p.longitude) 5 c.angle_bytes-2.ensures (search rules) tt c.put_bytes-2.ensures in
    let w₃ = filled_same w₂ 2 (unsigned_of 16 p.sea) (ap (unsigned_of 16) sea) tt c.put.ensures in
    let w₄ = filled_same w₃ 2 (unsigned_of 16 p.land) (ap (unsigned_of 16) land) tt c.put-2.ensures in
    filled_all w₄
