-- A message written with its check value zero, and then the check value put in its place.
use Rattle.std.specs.Prelude.{Ok, Err}
use Prim.Native.Nat.{ℕ, ◌+◌, ◌≤◌}
use mathlib.Core.Path.{◌≡◌, refl, ap, ap₂, ◌∙◌}
use mathlib.Core.Bool.{Bool}
use mathlib.Core.List.{List, ◌++◌}
use native.Mathlib.Omega.{arith}
use lib.ListN.{length, take, drop}
use lib.Seq.{take_at}
use Rattle.octets.specs.Put.{put_in}
use Rattle.octets.proofs.PatchLaws.{put_in_first}
use Rattle.refusal.specs.declared.Refusal.{Refusal}
use Rattle.object.specs.declared.family.Family.TheVariants.{Misp}
use Rattle.object.specs.Family.{limit_of}
use Rattle.message.specs.Writing.{Writes}
use Rattle.message.proofs.CarriedLaws.{form_short}
use Rattle.message.proofs.WroteLaws.{wrote_left, refused_instead, bytes_instead}
use Rattle.checked.specs.Checked.{check_for, no_check, with_check}
use Rattle.checked.proofs.ShapeLaws.{Shape, check_offset, shape_patch, shape_size, shape_room, check_sixteen}

module _ {make : List ℕ → List ℕ} (s : Shape make) (key sender receiver : List ℕ) where
  -- as long as with its check value zero
  pub checked_size : length (with_check key sender receiver make) ≡ length (make no_check)
  unfolding with_check
  checked_size = shape_size s no_check (check_for key sender receiver (make no_check)) refl (check_sixteen key sender receiver (make no_check))

  -- never over 1,500 bytes
  pub checked_fits : length (with_check key sender receiver make) ≤ limit_of Misp
  checked_fits = rw checked_size (form_short (s.form no_check))

module _ {make : List ℕ → List ℕ} (s : Shape make) (key sender receiver : List ℕ) {in_range : Bool} {before middle : List ℕ} where
  -- a refusal is passed on
  pub checked_refused : {why : Refusal} → Writes Misp in_range (make no_check) before middle (Err why)
      → Writes Misp in_range (with_check key sender receiver make) before middle (Err why)
  checked_refused w = refused_instead (with_check key sender receiver make) (checked_size s key sender receiver) w

  -- the zeros are replaced
  pub checked_bytes : {n : ℕ} {after : List ℕ} → Writes Misp in_range (make no_check) before middle (Ok n)
      → after ≡ put_in middle (check_offset s) (check_for key sender receiver (take n middle))
      → Writes Misp in_range (with_check key sender receiver make) before after (Ok n)
  unfolding with_check
  checked_bytes {n} {after} w e =
      let m : List ℕ = make no_check in
      let check : List ℕ = check_for key sender receiver m in
      let rest : List ℕ = drop (length m) before in
      let starts : middle ≡ m ++ rest = (wrote_left w).starts in
      let long : length check ≡ 16 = check_sixteen key sender receiver m in
      let first : take n middle ≡ m = ap₂ take (wrote_left w).size starts ∙ take_at m rest (length m) refl in
      let room : check_offset s + length check ≤ length m = omega (arith, shape_room s no_check refl) in
      let patched : put_in (m ++ rest) (check_offset s) check ≡ make check ++ rest =
      put_in_first m rest (check_offset s) check room ∙ ap (λ (x : List ℕ). x ++ rest) (shape_patch s no_check check refl long) in
      bytes_instead (with_check key sender receiver make) (checked_size s key sender receiver) w
      (e ∙ ap₂ (λ (x y : List ℕ). put_in x (check_offset s) (check_for key sender receiver y)) starts first ∙ patched)
