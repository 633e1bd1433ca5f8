-- The test of a range, as the paper writes one: '1 to 65,535' (the paper, 'Steps'; 'Lengths are 1 to 253', 'Account book').
use Rattle.std.specs.Prelude.{ℕ, Bool, nat_le}
use Rattle.octets.specs.Choice.{both}

-- from a least to a most, both included
abbrev pub within : ℕ → ℕ → ℕ → Bool
within low high n = both (nat_le low n) (nat_le n high)
