-- A number that may be missing, over the boundary (DECISIONS, 56).
use Rattle.std.specs.Prelude.{ℕ, ◌==◌, Option, Some, None}
use Rattle.octets.specs.Choice.{pick}

-- no number: 2^64-1, which no field reaches that may be missing
abbrev pub no_number : ℕ
no_number = 0xffffffffffffffff

-- as it is handed out
abbrev pub number_said : Option ℕ → ℕ
number_said None = no_number
number_said (Some n) = n

-- as it is handed in
unfoldable pub optional_said : ℕ → Option ℕ
optional_said n = pick (n == no_number) None (Some n)
