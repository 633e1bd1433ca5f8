-- Byte strings in hex (docs/REPLAY.md, 'Lines': 'hex, read in lower or upper case and printed in lower, `-` for none').
use Rattle.std.specs.Prelude.{ℕ, ◌+◌, ◌*◌, ◌/◌, ◌%◌, ◌≡◌, Bool, List, [], ◌∷◌, length, nat_le, nat_lt, ◌==◌, Option, Some, None}
use Rattle.octets.specs.Choice.{pick, both}
use Rattle.octets.specs.Same.{same_bytes}
use Rattle.octets.specs.Put.{put_in}
use Rattle.script.specs.Digits.{digit_of, glyph_of, are_digits}

-- '`-` for none'
abbrev pub dash : List ℕ
dash = 45 ∷ []

-- two digits to a byte, the higher first
unfoldable pub unhexed : List ℕ → List ℕ
unhexed [] = []
unhexed (a ∷ []) = []
unhexed (a ∷ b ∷ l) = (digit_of a * 16 + digit_of b) ∷ unhexed l

-- an even number of digits, and some
unfoldable pub is_hex : List ℕ → Bool
is_hex w = both (nat_lt 0 (length w)) (both ((length w % 2) == 0) (are_digits 16 w))

-- the byte string that a word says, if it says one
unfoldable pub hex_of : List ℕ → Option (List ℕ)
hex_of w = pick (same_bytes w dash) (Some []) (pick (is_hex w) (Some (unhexed w)) None)

-- how many bytes it has
unfoldable pub size_of : Option (List ℕ) → Option ℕ
size_of None = None
size_of (Some l) = Some (length l)

-- one that fits a room
unfoldable pub fitting : ℕ → Option (List ℕ) → Option (List ℕ)
fitting room None = None
fitting room (Some l) = pick (nat_le (length l) room) (Some l) None

-- its bytes at the start of a buffer, where there are any
unfoldable pub held_in : List ℕ → Option (List ℕ) → List ℕ
held_in out None = out
held_in out (Some l) = put_in out 0 l

-- reading a word into a buffer: the answer, and what the buffer holds then
pub record ReadInto (word out held : List ℕ) (r : Option ℕ) : Type 0 where
  pub answer : r ≡ size_of (fitting (length out) (hex_of word))
  pub bytes : held ≡ held_in out (fitting (length out) (hex_of word))

-- two digits for a byte, the higher first
unfoldable pub digit_pairs : List ℕ → List ℕ
digit_pairs [] = []
digit_pairs (b ∷ l) = glyph_of (b / 16) ∷ glyph_of (b % 16) ∷ digit_pairs l

-- a byte string as it is printed
unfoldable pub hexed : List ℕ → List ℕ
hexed [] = dash
hexed (b ∷ l) = digit_pairs (b ∷ l)
