-- Digits: 0 to 9, and for hex a to f (docs/REPLAY.md, 'Lines': 'read in lower or upper case and printed in lower').
use Rattle.std.specs.Prelude.{ℕ, ◌+◌, ◌-◌, Bool, List, nat_lt}
use Rattle.octets.specs.Choice.{pick, every}
use Rattle.octets.specs.Range.{within}

-- what a digit counts: 0 to 9, a to f, A to F; any other byte counts 16, which no digit does
unfoldable pub digit_of : ℕ → ℕ
digit_of b = pick (within 48 57 b) (b - 48) (pick (within 97 102 b) (b - 87) (pick (within 65 70 b) (b - 55) 16))

-- the digit that counts d, in lower case
unfoldable pub glyph_of : ℕ → ℕ
glyph_of d = pick (nat_lt d 10) (48 + d) (87 + d)

-- digits of a base and nothing else
abbrev pub are_digits : ℕ → List ℕ → Bool
are_digits base l = every (λ b. nat_lt (digit_of b) base) l
