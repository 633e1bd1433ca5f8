-- The number that is sought in the places of a router's state (docs/BOUNDARY.md, the layout; DECISIONS, 62).
use Rattle.std.specs.Prelude.{ℕ, List, ◌∷◌, ◌≡◌, length}
use Rattle.octets.specs.Numbers.{Bytes, number_of}

-- for `find`: n is the flag of a taken place and the address behind it, seven bytes, as one number
pub record Sought (address : List ℕ) (n : ℕ) : Type 0 where
  pub is : n ≡ number_of (1 ∷ address)
  pub long : length address ≡ 6
  pub bytes : Bytes address
