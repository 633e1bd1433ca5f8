-- `angle_bytes` meets its contract: zeros, or the flag and the number put into them.
use mathlib.Core.Bool.{true}
use mathlib.Core.Path.{◌≡◌, ap}
use mir.Syntax.{w32}
use mir.Val.{to_z, of_z}
use borrow.Author.Rules.{rules}
use Rattle.octets.specs.Numbers.{bytes_of, unsigned_of}
use Rattle.laid.proofs.FieldLaws.{filled_zeros, filled_flag, filled_same, filled_all}
use Rattle.storedrouter.specs.Settings.{angle_bytes}
use Rattle.storedrouter.proofs.settings.angle_bytes.Goals as goal

pub returns-in_default : goal.returns-in_default
unfolding angle_bytes bytes_of
returns-in_default c = rw c.in_default.is

pub returns-in-Some : goal.returns-in-Some
unfolding angle_bytes
returns-in-Some c =
    let z = c.in-Some.z in
    let back : to_z w32 (of_z w32 z) ≡ z = search rules in
    let w₁ = filled_flag (filled_zeros 5) true tt c.put.ensures in
    let w₂ = filled_same w₁ 4 (unsigned_of 32 z) (ap (unsigned_of 32) back) tt c.put-in-Some.ensures in
    rw c.in-Some.is (filled_all w₂)
