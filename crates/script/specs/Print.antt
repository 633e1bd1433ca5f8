-- Printing into a lent buffer, from which a line is written at once (docs/REPLAY.md says what is printed).
use Rattle.std.specs.Prelude.{ℕ, ◌+◌, ◌≡◌, List, length, nat_le}
use Rattle.octets.specs.Choice.{pick}
use Rattle.octets.specs.Put.{put_in}

-- a text at an offset, where it has room, and how many bytes were put: 0 where it has none
pub record Printed (text out : List ℕ) (at : ℕ) (held : List ℕ) (r : ℕ) : Type 0 where
  pub bytes : held ≡ put_in out at text
  pub count : r ≡ pick (nat_le (at + length text) (length out)) (length text) 0
