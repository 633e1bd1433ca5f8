-- A position: its twelve bytes, what is read from bytes that were written, and what is written of a position that was read.
use Prim.Native.Nat.{ℕ, ◌+◌, ◌^◌, ◌≤◌, ◌<◌}
use mathlib.Core.Bool.{true}
use mathlib.Core.List.{List, ◌++◌, append_assoc}
use mathlib.Core.Path.{◌≡◌, refl, sym, ap, ◌∙◌}
use native.Mathlib.Omega.{arith}
use lib.Dec.{lit<, lit≤, eqb}
use lib.ListN.{length, take, drop, replicate, length-append, length-drop}
use lib.Seq.{take_at, drop_at, drop-drop, take_all, length-take-le}
use lib.Signed.{mag}
use borrow.Author.Tests.{eqb-true}
use Rattle.octets.specs.Numbers.{Bytes, number_of, bytes_of, signed_of, unsigned_of}
use Rattle.octets.specs.Put.{put_in}
use Rattle.octets.proofs.BytesLaws.{part_bytes}
use Rattle.octets.proofs.ChoiceLaws.{pick_all, pick_false, flip_true, both_left, both_right}
use Rattle.octets.proofs.ListLaws.{part_join}
use Rattle.octets.proofs.NumberLaws.{bytes_length, number_bytes, number_back, bytes_number, number_part_small}
use Rattle.octets.proofs.PutLaws.{written_none, written_at, written_all}
use Rattle.octets.proofs.SignedLaws.{signed_unsigned, unsigned_signed, unsigned_small}
use Rattle.std.specs.Prelude.{ℤ, Option, Some, None}
use Rattle.position.specs.Position.{no_angle, angle_of, angle_number, position_of, position_bytes, can_say, in_range}
use Rattle.position.specs.declared.Position.{Position}

-- twelve bytes
pub position_length : (p : Position) → length (position_bytes p) ≡ 12
unfolding position_bytes
position_length p = simp (length-append, bytes_length)

-- its four numbers put one after the other
pub position_put : (p : Position) {a b c d : ℕ} {t₁ t₂ t₃ t₄ : List ℕ}
    → a ≡ angle_number p.latitude → b ≡ angle_number p.longitude → c ≡ unsigned_of 16 p.sea → d ≡ unsigned_of 16 p.land
    → t₁ ≡ put_in (replicate 12 0) 0 (bytes_of 4 a) → t₂ ≡ put_in t₁ 4 (bytes_of 4 b)
    → t₃ ≡ put_in t₂ 8 (bytes_of 2 c) → t₄ ≡ put_in t₃ 10 (bytes_of 2 d)
    → t₄ ≡ position_bytes p
unfolding position_bytes
position_put p {a} {b} {c} {d} ea eb ec ed p₁ p₂ p₃ p₄ =
    let w₁ = written_at (written_none (replicate 12 0)) (bytes_of 4 a) 0 refl (simp bytes_length (lit≤ tt)) p₁ in
    let w₂ = written_at w₁ (bytes_of 4 b) 4 (simp (length-append, bytes_length)) (simp bytes_length (lit≤ tt)) p₂ in
    let w₃ = written_at w₂ (bytes_of 2 c) 8 (simp (length-append, bytes_length)) (simp bytes_length (lit≤ tt)) p₃ in
    let w₄ = written_at w₃ (bytes_of 2 d) 10 (simp (length-append, bytes_length)) (simp bytes_length (lit≤ tt)) p₄ in
    written_all w₄ (simp (length-append, bytes_length)) ∙ rw (← ea, ← eb, ← ec, ← ed) (simp append_assoc)

-- what the code's types hold: angles of 32 bits, heights of 16
abbrev pub AngleHeld : Option ℤ → Type 0
AngleHeld None = Unit
AngleHeld (Some z) = mag z < 2 ^ 31

pub record PositionHeld (p : Position) : Type 0 where
  pub latitude : AngleHeld p.latitude
  pub longitude : AngleHeld p.longitude
  pub sea : mag p.sea < 2 ^ 15
  pub land : mag p.land < 2 ^ 15

-- an angle fits 32 bits
angle_small : (a : Option ℤ) → AngleHeld a → angle_number a < 2 ^ 32
unfolding angle_number
angle_small None h = lit< tt
angle_small (Some z) h = unsigned_small 32 z (lit< tt) h

-- an angle and its number, both ways
number_angle : (a : Option ℤ) → can_say a ≡ true → AngleHeld a → angle_of (angle_number a) ≡ a
unfolding angle_of angle_number can_say
number_angle None e h = refl
number_angle (Some z) e h =
    pick_false (eqb (unsigned_of 32 z) no_angle) None (Some (signed_of 32 (unsigned_of 32 z))) (flip_true (eqb (unsigned_of 32 z) no_angle) e)
    ∙ ap Some (signed_unsigned 32 z (lit< tt) h)

angle_number_law : (n : ℕ) → n < 2 ^ 32 → angle_number (angle_of n) ≡ n
unfolding angle_of angle_number
angle_number_law n h =
    pick_all (λ (a : Option ℤ). angle_number a ≡ n) (eqb n no_angle) None (Some (signed_of 32 n))
    (λ e. sym (eqb-true n no_angle e)) (λ _. unsigned_signed 32 n h)

-- a number before others is read again, and what follows it
front : (k n : ℕ) (r : List ℕ) → n < 256 ^ k → number_of (take k (bytes_of k n ++ r)) ≡ n
front k n r h = ap number_of (take_at (bytes_of k n) r k (bytes_length k n)) ∙ number_bytes k n h

back : (k n : ℕ) (r : List ℕ) → drop k (bytes_of k n ++ r) ≡ r
back k n r = drop_at (bytes_of k n) r k (bytes_length k n)

-- what was written is read again
pub position_bytes_law : (p : Position) → in_range p ≡ true → PositionHeld p → position_of (position_bytes p) ≡ p
unfolding position_of position_bytes in_range
position_bytes_law p e h =
    let la = angle_number p.latitude in
    let lo = angle_number p.longitude in
    let se = unsigned_of 16 p.sea in
    let gr = unsigned_of 16 p.land in
    let r₃ = bytes_of 2 gr in
    let r₂ = bytes_of 2 se ++ r₃ in
    let r₁ = bytes_of 4 lo ++ r₂ in
    let v = bytes_of 4 la ++ r₁ in
    let d₁ : drop 4 v ≡ r₁ = back 4 la r₁ in
    let d₂ : drop 8 v ≡ r₂ = sym (drop-drop 4 4 v) ∙ ap (drop 4) d₁ ∙ back 4 lo r₂ in
    let d₃ : drop 10 v ≡ r₃ = sym (drop-drop 2 8 v) ∙ ap (drop 2) d₂ ∙ back 2 se r₃ in
    let latitude : angle_of (number_of (take 4 v)) ≡ p.latitude =
    ap angle_of (front 4 la r₁ (angle_small p.latitude h.latitude))
    ∙ number_angle p.latitude (both_left (can_say p.latitude) (can_say p.longitude) e) h.latitude in
    let longitude : angle_of (number_of (take 4 (drop 4 v))) ≡ p.longitude =
    rw d₁ (ap angle_of (front 4 lo r₂ (angle_small p.longitude h.longitude)))
    ∙ number_angle p.longitude (both_right (can_say p.latitude) (can_say p.longitude) e) h.longitude in
    let sea : signed_of 16 (number_of (take 2 (drop 8 v))) ≡ p.sea =
    rw d₂ (ap (signed_of 16) (front 2 se r₃ (unsigned_small 16 p.sea (lit< tt) h.sea)))
    ∙ signed_unsigned 16 p.sea (lit< tt) h.sea in
    let land : signed_of 16 (number_of (take 2 (drop 10 v))) ≡ p.land =
    rw (d₃, number_back 2 2 gr (unsigned_small 16 p.land (lit< tt) h.land) (lit≤ tt))
    (signed_unsigned 16 p.land (lit< tt) h.land) in
    λ j. record { latitude = latitude j; longitude = longitude j; sea = sea j; land = land j }

-- the bytes of a number that was read at an offset, and changed and changed back
part_back : (k : ℕ) (same : ℕ → ℕ) → ((n : ℕ) → n < 256 ^ k → same n ≡ n) → (v : List ℕ) (at : ℕ) → at + k ≤ length v → Bytes v
    → bytes_of k (same (number_of (take k (drop at v)))) ≡ take k (drop at v)
part_back k same back v at h b =
    ap (bytes_of k) (back (number_of (take k (drop at v))) (number_part_small k at v b))
    ∙ bytes_number k (take k (drop at v)) (length-take-le k (drop at v) (simp length-drop (omega arith))) (part_bytes k at v b)

-- what was read is written again
pub bytes_position : (v : List ℕ) → length v ≡ 12 → Bytes v → position_bytes (position_of v) ≡ v
unfolding position_of position_bytes
bytes_position v e b =
    let angle = part_back 4 (λ n. angle_number (angle_of n)) angle_number_law v in
    let height = part_back 2 (λ n. unsigned_of 16 (signed_of 16 n)) (unsigned_signed 16) v in
    let few : length (drop 10 v) ≤ 2 = simp length-drop (omega arith) in
    rw (
      angle 0 (omega arith) b,
      angle 4 (omega arith) b,
      height 8 (omega arith) b,
      height 10 (omega arith) b,
      take_all 2 (drop 10 v) few,
      part_join 2 8 v,
      part_join 4 4 v,
      part_join 4 0 v,
    )
