-- A part of a byte string, where it stands: a password is 'handed back as the part of that book in which it stands' (the paper, 'Account book'), a byte
-- string of a message likewise (DECISIONS, 26).
use Rattle.std.specs.Prelude.{ℕ, List, take, drop}
use Rattle.octets.specs.declared.part.Part.{Part}

-- the bytes of a part; where the byte string ends before it does, those that are there
unfoldable pub bytes_at : List ℕ → Part → List ℕ
bytes_at m p = take p.len (drop p.at m)
