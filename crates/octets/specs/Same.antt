-- Whether two byte strings are the same, as a test: 'the same stamp and check value' (the paper, 'Steps'), and wherever the paper compares two check
-- values, Authenticators, names or addresses.
use Rattle.std.specs.Prelude.{ℕ, List, [], ◌∷◌, Bool, true, false, ◌==◌}
use Rattle.octets.specs.Choice.{both}

-- of the same length, and the same byte at each place
unfoldable pub same_bytes : List ℕ → List ℕ → Bool
same_bytes [] [] = true
same_bytes [] (y ∷ ys) = false
same_bytes (x ∷ xs) [] = false
same_bytes (x ∷ xs) (y ∷ ys) = both (x == y) (same_bytes xs ys)
