-- The arguments of a line: its words as numbers and as byte strings. What is quoted is what docs/REPLAY.md, 'Lines', says of a line that prints `error`.
use Rattle.std.specs.Prelude.{ℕ, Bool, List, length, nat_le, ◌==◌, Option, Some, None}
use Rattle.octets.specs.Choice.{pick, both}
use Rattle.octets.specs.Same.{same_bytes}
use Rattle.script.specs.Words.{words_of, word_of}
use Rattle.script.specs.Hex.{hex_of}

-- 'an unknown word, too few or too many'
unfoldable pub is_call : List ℕ → List ℕ → ℕ → Bool
is_call line name words = both (same_bytes (word_of line 0) name) (length (words_of line) == words)

-- 'a number over its width'
unfoldable pub up_to_most : ℕ → Option ℕ → Option ℕ
up_to_most most None = None
up_to_most most (Some n) = pick (nat_le n most) (Some n) None

-- 'a byte string of the wrong length'
unfoldable pub of_size : ℕ → Option (List ℕ) → Option (List ℕ)
of_size n None = None
of_size n (Some l) = pick (length l == n) (Some l) None

-- a byte string of n bytes, where the word says one
unfoldable pub fixed_of : ℕ → List ℕ → Option (List ℕ)
fixed_of n word = of_size n (hex_of word)
