-- Reading a number digit by digit.
use Prim.Native.Nat.{ℕ, ◌+◌, ◌*◌, ◌^◌, ◌≤◌, ◌<◌}
use mathlib.Core.Path.{◌≡◌, ◌∙◌}
use mathlib.Core.List.{List, [], ◌∷◌}
use native.Mathlib.Omega.{arith}
use native.Mathlib.Numerals.{add-one}
use lib.ListN.{length, get_or, drop, drop_of_length-le}
use lib.Seq.{drop-cons}
use borrow.Author.Tests.{lt-ltb, le-ltb}
use Rattle.std.proofs.Common.{Some, None}
use Rattle.octets.specs.Choice.{every}
use Rattle.octets.proofs.ChoiceLaws.{both_none}
use Rattle.script.specs.Digits.{digit_of}
use Rattle.script.specs.Decimal.{spelled_from, decimal_from, decimal_of}

-- no digit, or some
pub decimal_none : (w : List ℕ) → length w ≡ 0 → decimal_of w ≡ None
unfolding decimal_of
decimal_none w e = rw (le-ltb 0 (length w) (omega arith))

pub decimal_some : (w : List ℕ) → 0 < length w → decimal_of w ≡ decimal_from 0 w
unfolding decimal_of
decimal_some w h = rw (lt-ltb 0 (length w) h)

-- more digits make no smaller number
grows : (n : ℕ) (l : List ℕ) → n ≤ spelled_from n l
grows n [] = omega arith
grows n (b ∷ l) = let more = grows (n * 10 + digit_of b) l in omega arith

-- so one that is too large stays so
pub too_large : (n : ℕ) (l : List ℕ) → 2 ^ 64 ≤ n → decimal_from n l ≡ None
unfolding decimal_from
too_large n l h =
    let more = grows n l in
    rw (le-ltb (spelled_from n l) (2 ^ 64) (omega arith), both_none)

-- at the byte i of a word, after the number n
module _ (n : ℕ) (w : List ℕ) (i : ℕ) where
  pub digit_next : i < length w → digit_of (get_or w i 0) < 10 → decimal_from n (drop i w) ≡ decimal_from (n * 10 + digit_of (get_or w i 0)) (drop (i + 1) w)
  unfolding decimal_from every
  digit_next h e = rw (drop-cons w i 0 h, lt-ltb (digit_of (get_or w i 0)) 10 e, add-one)

  pub digit_bad : i < length w → 10 ≤ digit_of (get_or w i 0) → decimal_from n (drop i w) ≡ None
  unfolding decimal_from every
  digit_bad h e = rw (drop-cons w i 0 h, le-ltb (digit_of (get_or w i 0)) 10 e)

  pub digit_large : i < length w → digit_of (get_or w i 0) < 10 → 2 ^ 64 ≤ n * 10 + digit_of (get_or w i 0) → decimal_from n (drop i w) ≡ None
  digit_large h e k = digit_next h e ∙ too_large (n * 10 + digit_of (get_or w i 0)) (drop (i + 1) w) k

  pub digits_over : length w ≤ i → n < 2 ^ 64 → decimal_from n (drop i w) ≡ Some n
  unfolding decimal_from every
  digits_over h k = rw (drop_of_length-le w {i = i} h, lt-ltb n (2 ^ 64) k)
