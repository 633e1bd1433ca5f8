-- Numbers in decimal (docs/REPLAY.md, 'Lines': 'decimal, up to 64 bits. Leading zeros are allowed'; a sign is no digit).
use Rattle.std.specs.Prelude.{ℕ, zero, suc, ◌+◌, ◌*◌, ◌/◌, ◌%◌, ◌^◌, List, [], ◌∷◌, length, nat_lt, Option, Some, None}
use Rattle.octets.specs.Choice.{pick, both}
use Rattle.script.specs.Digits.{digit_of, glyph_of, are_digits}

-- the number that digits spell after the number n
abbrev pub spelled_from : ℕ → List ℕ → ℕ
spelled_from n [] = n
spelled_from n (b ∷ l) = spelled_from (n * 10 + digit_of b) l

-- after the number n: digits, of a number below 2 ^ 64; the value alone counts against the 64 bits
unfoldable pub decimal_from : ℕ → List ℕ → Option ℕ
decimal_from n l = pick (both (are_digits 10 l) (nat_lt (spelled_from n l) (2 ^ 64))) (Some (spelled_from n l)) None

-- one digit or more
unfoldable pub decimal_of : List ℕ → Option ℕ
decimal_of w = pick (nat_lt 0 (length w)) (decimal_from 0 w) None

-- the digits of a number before a text; as many as f are enough
unfoldable pub decimal_before : ℕ → ℕ → List ℕ → List ℕ
decimal_before zero n text = text
decimal_before (suc f) n text = pick (nat_lt n 10) (glyph_of n ∷ text) (decimal_before f (n / 10) (glyph_of (n % 10) ∷ text))

-- a number as it is printed, with no leading zero; one below 2 ^ 64 has 20 digits at most
unfoldable pub decimal_text : ℕ → List ℕ
decimal_text n = decimal_before 20 n []
