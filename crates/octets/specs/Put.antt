-- Writing into a byte string, as into a lent buffer: what stands before and past what is written stays (the paper: 'Output past the message stays').
use Rattle.std.specs.Prelude.{ℕ, ◌+◌, List, ◌++◌, length, take, drop, replicate, nat_le}
use Rattle.octets.specs.Choice.{pick}

-- l with vs in the place of what stood from an offset within it on
unfoldable pub put : List ℕ → ℕ → List ℕ → List ℕ
put l at vs = take at l ++ vs ++ drop (at + length vs) l

-- the same where vs has room, and l as it was where not (DECISIONS, 42)
unfoldable pub put_in : List ℕ → ℕ → List ℕ → List ℕ
put_in l at vs = pick (nat_le (at + length vs) (length l)) (put l at vs) l

-- a message with its 16 bytes from an offset on zero ('with the check value's bytes zero', 'with the field zero'); as it was where it has not so many (DECISIONS, 42)
unfoldable pub zeroed : ℕ → List ℕ → List ℕ
zeroed at m = put_in m at (replicate 16 0)

-- the first n bytes, filled up with zeros where there are fewer: glue, how a byte string is held in an array, of a state or of 16 bytes
unfoldable pub fitted : ℕ → List ℕ → List ℕ
fitted n l = take n (l ++ replicate n 0)
