-- What digits count, and the digits that count it.
use Prim.Native.Nat.{ℕ, zero, suc, ◌+◌, ◌-◌, ◌≤◌, ◌<◌}
use mathlib.Core.Path.{◌≡◌, refl, sym, ◌∙◌}
use mathlib.Core.Bool.{Bool, true, false}
use mathlib.Core.List.{List, [], ◌∷◌}
use native.Mathlib.Omega.{arith}
use lib.Dec.{ltb}
use Rattle.std.proofs.Common.{◌&&◌}
use Rattle.std.specs.List.{list_all}
use Rattle.std.specs.Char.{digit_value, is_ascii_hexdigit}
use Rattle.std.proofs.lemmas.Bool.Decides.{nat_tests}
use lib.ListN.{length, get_or}
use borrow.Author.Tests.{ltb-true, ltb-false, lt-ltb, le-ltb}
use Rattle.octets.proofs.ChoiceLaws.{and_both}
use Rattle.octets.specs.Choice.{both, every}
use Rattle.octets.proofs.ChoiceLaws.{pick_all, both_left, both_right}
use Rattle.octets.proofs.RangeLaws.{within_yes, within_no}
use Rattle.script.specs.Digits.{digit_of, glyph_of, are_digits}

-- 0 to 9, a to f, A to F, and any other byte
pub digit_number : (b : ℕ) → 48 ≤ b → b ≤ 57 → digit_of b ≡ b - 48
unfolding digit_of
digit_number b p q = rw (within_yes 48 57 b p q)

pub digit_lower : (b : ℕ) → 97 ≤ b → b ≤ 102 → digit_of b ≡ b - 87
unfolding digit_of
digit_lower b p q = rw (within_no 48 57 b (λ low high. omega arith), within_yes 97 102 b p q)

pub digit_upper : (b : ℕ) → 65 ≤ b → b ≤ 70 → digit_of b ≡ b - 55
unfolding digit_of
digit_upper b p q = rw (within_no 48 57 b (λ low high. omega arith), within_no 97 102 b (λ low high. omega arith), within_yes 65 70 b p q)

pub digit_none : (b : ℕ) → (48 ≤ b → b ≤ 57 → ⊥) → (97 ≤ b → b ≤ 102 → ⊥) → (65 ≤ b → b ≤ 70 → ⊥) → digit_of b ≡ 16
unfolding digit_of
digit_none b p q r = rw (within_no 48 57 b p, within_no 97 102 b q, within_no 65 70 b r)

-- what std's digits count, and that no other byte counts less than the base
digit_below : (base b : ℕ) → base ≤ 16 → digit_value b < base → digit_of b ≡ digit_value b
digit_below base b h k = grind (arith, nat_tests, digit_number, digit_lower, digit_upper)

digit_above : (base b : ℕ) → base ≤ 16 → base ≤ digit_value b → base ≤ digit_of b
digit_above base b h k = grind (arith, nat_tests, digit_number, digit_lower, digit_upper, digit_none)

-- a digit that std reads, and one that it doesn't, where k is the character of the byte b
module _ (base b k : ℕ) (h : base ≤ 16) (e : k ≡ b) where
  pub digit_read : (d : ℕ) → (digit_value k < base) × (d ≡ digit_value k) → (digit_of b < base) × (d ≡ digit_of b)
  digit_read d p = let same = digit_below base b h (rw e at p.0) in (omega (arith, p.0, same, rw e at p.0), p.1 ∙ rw e (sym same))

  pub digit_unread : (digit_value k < base → ⊥) → base ≤ digit_of b
  digit_unread p = let far : base ≤ digit_value k = omega (arith, p) in digit_above base b h (rw e at far)

  pub digit_told : digit_of b < base → digit_value k < base
  digit_told p = rw e (go (ltb (digit_value b) base) refl)
    where
      go : (t : Bool) → ltb (digit_value b) base ≡ t → digit_value b < base
      go true q = ltb-true (digit_value b) base q
      go false q = let far = digit_above base b h (ltb-false (digit_value b) base q) in absurd (omega (arith, far, p))

-- std's digits of hex
hex_digit : (b : ℕ) → is_ascii_hexdigit b ≡ true → digit_of b < 16
hex_digit b h = grind (arith, nat_tests, digit_number, digit_lower, digit_upper)

no_hex_digit : (b : ℕ) → is_ascii_hexdigit b ≡ false → digit_of b ≡ 16
no_hex_digit b h = grind (arith, nat_tests, digit_none)

hex_digit_is : (b : ℕ) → is_ascii_hexdigit b ≡ ltb (digit_of b) 16
hex_digit_is b = go (is_ascii_hexdigit b) refl
  where
    go : (t : Bool) → is_ascii_hexdigit b ≡ t → t ≡ ltb (digit_of b) 16
    go true e = sym (lt-ltb (digit_of b) 16 (hex_digit b e))
    go false e = sym (le-ltb (digit_of b) 16 (let no = no_hex_digit b e in omega arith))

pub hex_digits : (w : List ℕ) → list_all is_ascii_hexdigit w ≡ are_digits 16 w
unfolding every
hex_digits [] = refl
hex_digits (b ∷ w) = rw (hex_digit_is b, hex_digits w) (and_both (ltb (digit_of b) 16) (are_digits 16 w))

-- what is printed for a digit counts as that digit
pub digit_glyph : (d : ℕ) → d < 16 → digit_of (glyph_of d) ≡ d
unfolding glyph_of
digit_glyph d h =
    pick_all (λ (g : ℕ). digit_of g ≡ d) (ltb d 10) (48 + d) (87 + d)
    (λ e. let low = ltb-true d 10 e in digit_number (48 + d) (omega arith) (omega arith) ∙ omega arith)
    (λ e. let high = ltb-false d 10 e in digit_lower (87 + d) (omega arith) (omega arith) ∙ omega arith)

-- each byte of digits is one
pub digits_each : (base : ℕ) (w : List ℕ) → are_digits base w ≡ true → (i : ℕ) → i < length w → digit_of (get_or w i 0) < base
unfolding every
digits_each base [] h i lt = absurd (omega arith)
digits_each base (b ∷ w) h zero lt = ltb-true (digit_of b) base (both_left (ltb (digit_of b) base) (are_digits base w) h)
digits_each base (b ∷ w) h (suc i) lt = digits_each base w (both_right (ltb (digit_of b) base) (are_digits base w) h) i (omega arith)
