-- What is printed is read again as what it was: each number below 2 ^ 64 and each byte string. Both are words without a space.
use Prim.Native.Nat.{ℕ, zero, suc, ◌+◌, ◌*◌, ◌/◌, ◌%◌, ◌^◌, ◌≤◌, ◌<◌}
use mathlib.Core.Path.{◌≡◌, refl, ap, ◌∙◌}
use mathlib.Core.Bool.{true, false}
use mathlib.Core.List.{List, [], ◌∷◌}
use Rattle.std.proofs.Common.{Option, Some, None}
use native.Mathlib.Omega.{arith}
use lib.Dec.{ltb, eqb}
use lib.ListN.{length, get_or}
use borrow.Author.Tests.{lt-ltb, eq-eqb, ne_eqb, ltb-true}
use Rattle.std.specs.Fmt.{decimal}
use Rattle.std.proofs.lemmas.Fmt.{digits_decimal, digits_value-decimal, decimal_nonempty, first_decimal}
use Rattle.std.proofs.lemmas.Str.Parse.{IsDigitsTest, IsNumeralModel, numerals_by_fold, digit_from_value}
use Rattle.octets.specs.Choice.{pick, both, every}
use Rattle.octets.specs.Same.{same_bytes}
use Rattle.octets.specs.Numbers as numbers
use Rattle.octets.proofs.ChoiceLaws.{never, pick_all, both_left, both_right}
use Rattle.octets.proofs.BytesLaws.{bytes_head, bytes_tail}
use Rattle.octets.proofs.SameLaws.{same_refl, same_true, unequal_lengths}
use Rattle.script.specs.Words.{space, up_to}
use Rattle.script.specs.Digits.{digit_of, glyph_of, are_digits}
use Rattle.script.specs.Decimal.{spelled_from, decimal_from, decimal_of, decimal_text}
use Rattle.script.specs.Hex.{dash, unhexed, is_hex, hex_of, digit_pairs, hexed}
use Rattle.script.proofs.JoinLaws.{Whole}
use Rattle.script.proofs.DigitLaws.{digit_number, digit_told, digit_glyph}
use Rattle.script.proofs.DecimalLaws.{decimal_some}
use Rattle.script.proofs.HexLaws.{hex_dash, hex_some}
use Rattle.script.proofs.PrintLaws.{pairs_length, decimal_text_is}

-- a glyph before digits
digits_glyph : (base d : ℕ) (l : List ℕ) → d < 16 → d < base → are_digits base (glyph_of d ∷ l) ≡ are_digits base l
unfolding every
digits_glyph base d l h k = rw (digit_glyph d h, lt-ltb d base k)

-- byte strings
pairs_back : (l : List ℕ) → numbers.Bytes l → unhexed (digit_pairs l) ≡ l
unfolding unhexed digit_pairs
pairs_back [] h = refl
pairs_back (b ∷ l) h =
    let small = bytes_head h in
    let byte : b / 16 * 16 + b % 16 ≡ b = omega arith in
    rw (digit_glyph (b / 16) (omega arith), digit_glyph (b % 16) (omega arith), byte, pairs_back l (bytes_tail h))

pairs_digits : (l : List ℕ) → numbers.Bytes l → are_digits 16 (digit_pairs l) ≡ true
unfolding every digit_pairs
pairs_digits [] h = refl
pairs_digits (b ∷ l) h =
    let small = bytes_head h in
    digits_glyph 16 (b / 16) (glyph_of (b % 16) ∷ digit_pairs l) (omega arith) (omega arith)
    ∙ digits_glyph 16 (b % 16) (digit_pairs l) (omega arith) (omega arith)
    ∙ pairs_digits l (bytes_tail h)

pairs_hex : (b : ℕ) (l : List ℕ) → numbers.Bytes (b ∷ l) → is_hex (digit_pairs (b ∷ l)) ≡ true
unfolding is_hex
pairs_hex b l h =
    let long = pairs_length (b ∷ l) in
    rw
    (lt-ltb 0 (length (digit_pairs (b ∷ l))) (omega arith), eq-eqb (length (digit_pairs (b ∷ l)) % 2) 0 (omega arith), pairs_digits (b ∷ l) h)

no_dash : (b : ℕ) (l : List ℕ) → same_bytes (digit_pairs (b ∷ l)) dash ≡ false
no_dash b l = let long = pairs_length (b ∷ l) in unequal_lengths (digit_pairs (b ∷ l)) dash (λ e. omega arith)

-- so what is printed of a byte string is read again
pub hex_back : (l : List ℕ) → numbers.Bytes l → hex_of (hexed l) ≡ Some l
unfolding hexed
hex_back [] h = hex_dash dash (same_refl dash)
hex_back (b ∷ l) h = hex_some (digit_pairs (b ∷ l)) (no_dash b l) (pairs_hex b l h) ∙ ap Some (pairs_back (b ∷ l) h)

-- numbers, as std reads and writes them
digits_test : IsDigitsTest (λ ds. are_digits 10 ds ≡ true)
unfolding every
digits_test = record {
  empty = refl;
  parts = λ c cs h. (
    digit_from_value c (digit_told 10 c c (omega arith) refl (ltb-true (digit_of c) 10 (both_left (ltb (digit_of c) 10) (are_digits 10 cs) h))),
    both_right (ltb (digit_of c) 10) (are_digits 10 cs) h,
  );
  more = λ c cs d h. let low = digit_number c d.0 d.1 in rw (lt-ltb (digit_of c) 10 (omega (arith, d, low)), h) refl;
}

numbers_read : IsNumeralModel (λ ds. are_digits 10 ds ≡ true) (spelled_from 0)
numbers_read = numerals_by_fold _ digits_test spelled_from (record { empty = λ n. refl; more = λ n c cs d. rw (digit_number c d.0 d.1) refl })

-- so what is printed of a number is read again
pub decimal_back : (n : ℕ) → n < 2 ^ 64 → decimal_of (decimal_text n) ≡ Some n
unfolding decimal_from
decimal_back n h =
    let digits = digits_decimal numbers_read n h in
    let value = digits_value-decimal numbers_read n h in
    rw (decimal_text_is n h) (decimal_some (decimal n) (decimal_nonempty n h) ∙ rw (digits, value, lt-ltb n (2 ^ 64) h) refl)

-- only 0 starts with the digit 0
pub no_leading_zero : (n : ℕ) → n < 2 ^ 64 → get_or (decimal_text n) 0 0 ≡ 48 → n ≡ 0
no_leading_zero zero h z = refl
no_leading_zero (suc n) h z = let e = rw (decimal_text_is (suc n) h) at z in absurd (omega (arith, e, first_decimal (suc n) (omega arith) h))

-- a word that a reader takes holds no space
digits_whole : (base : ℕ) (w : List ℕ) → base ≤ 16 → are_digits base w ≡ true → Whole w
unfolding every up_to digit_of
digits_whole base [] h e = refl
digits_whole base (b ∷ w) h e =
    let d = ltb-true (digit_of b) base (both_left (ltb (digit_of b) base) (are_digits base w) e) in
    let other : eqb b space ≡ false = ne_eqb b space (λ s. let z : digit_of b ≡ 16 = ap digit_of s in omega arith) in
    rw (other, digits_whole base w h (both_right (ltb (digit_of b) base) (are_digits base w) e))

-- a number that is read, and a byte string
pub number_whole : (w : List ℕ) (n : ℕ) → decimal_of w ≡ Some n → Whole w
unfolding decimal_of decimal_from
number_whole w n =
    pick_all (λ (r : Option ℕ). r ≡ Some n → Whole w) (ltb 0 (length w)) (decimal_from 0 w) None
    (λ some.
    pick_all (λ (r : Option ℕ). r ≡ Some n → Whole w) (both (are_digits 10 w) (ltb (spelled_from 0 w) (2 ^ 64))) (Some (spelled_from 0 w)) None
    (λ h e. digits_whole 10 w (omega arith) (both_left (are_digits 10 w) (ltb (spelled_from 0 w) (2 ^ 64)) h))
    (λ h e. never cc))
    (λ none e. never cc)

pub hex_whole : (w l : List ℕ) → hex_of w ≡ Some l → Whole w
unfolding hex_of is_hex up_to
hex_whole w l =
    pick_all (λ (o : Option (List ℕ)). o ≡ Some l → Whole w) (same_bytes w dash) (Some []) (pick (is_hex w) (Some (unhexed w)) None)
    (λ h e. rw (same_true w dash h))
    (λ h.
    pick_all (λ (o : Option (List ℕ)). o ≡ Some l → Whole w) (is_hex w) (Some (unhexed w)) None
    (λ k e.
    let rest = both_right (ltb 0 (length w)) (both (eqb (length w % 2) 0) (are_digits 16 w)) k in
    digits_whole 16 w (omega arith) (both_right (eqb (length w % 2) 0) (are_digits 16 w) rest))
    (λ k e. never cc))

-- so is what is printed
pub text_whole : (n : ℕ) → n < 2 ^ 64 → Whole (decimal_text n)
text_whole n h = number_whole (decimal_text n) n (decimal_back n h)

pub hexed_whole : (l : List ℕ) → numbers.Bytes l → Whole (hexed l)
hexed_whole l h = hex_whole (hexed l) l (hex_back l h)
