-- What is printed of a call, put into a lent text (docs/REPLAY.md, from which the sentences are).
use Rattle.std.specs.Prelude.{ℕ, ◌+◌, ◌≤◌, ◌≡◌, List, [], ◌∷◌, ◌++◌, length, take, Option, Some, None}
use Rattle.octets.specs.Put.{put}
use Rattle.refusal.specs.declared.To.{To}
use Rattle.refusal.specs.declared.To.TheVariants.{Nobody, Everyone, Server, Address}
use Rattle.refusal.specs.Table.{answer_number}
use Rattle.script.specs.Words.{space}
use Rattle.script.specs.Decimal.{decimal_text}
use Rattle.script.specs.Hex.{dash, hexed}
use Rattle.told.specs.declared.printing.Said.{Said}

-- bytes put from a place of a text on, where they have room: what the text holds then, and the place past them
pub record Puts (bytes text : List ℕ) (at : ℕ) (held : List ℕ) (next : ℕ) : Type 0 where
  pub long : length held ≡ length text
  pub is : at + length bytes ≤ length text → held ≡ put text at bytes
  pub past : at + length bytes ≤ length text → next ≡ at + length bytes

-- what ends a line
abbrev pub line_end : List ℕ
line_end = 10 ∷ []

-- 'A line it cannot read prints `error`'
abbrev pub error_text : List ℕ
error_text = 101 ∷ 114 ∷ 114 ∷ 111 ∷ 114 ∷ 10 ∷ []

-- what is missing prints one `-`
abbrev pub no_text : List ℕ
no_text = space ∷ dash

-- a number, past a space
abbrev pub next_number : ℕ → List ℕ
next_number n = space ∷ decimal_text n

-- a byte string in hexadecimal, past a space
abbrev pub next_bytes : List ℕ → List ℕ
next_bytes l = space ∷ hexed l

-- 'the address they go to or `-` (where nothing is written, a broadcast, to the server, from the server)'
unfoldable pub receiver : To → List ℕ
receiver Nobody = dash
receiver Everyone = dash
receiver Server = dash
receiver (Address a) = hexed a

-- 'A call prints `N BYTES TO`: the refusal number or 0, the bytes written or `-`, the address'
unfoldable pub answer_text : Option Said → List ℕ → List ℕ
answer_text None out = error_text
answer_text (Some s) out =
    decimal_text (answer_number s.answer) ++ next_bytes (take s.written out) ++ (space ∷ receiver s.to) ++ line_end
