-- A byte string that a state holds (the paper, 'Steps': 'a stored length past its array [counts] as the array's').
use Rattle.std.specs.Prelude.{ℕ, List, length, take}
use Rattle.octets.specs.Put.{fitted}
use Rattle.held.specs.declared.Held.{Held}

-- a secret, a password or an account as setup stores it (1 to 253 bytes)
unfoldable pub held_of : List ℕ → Held
held_of value = record { bytes = fitted 253 value; size = length value }

-- the bytes that count
unfoldable pub held_bytes : Held → List ℕ
held_bytes h = take h.size h.bytes
