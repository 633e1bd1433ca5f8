-- What two ends agree on (the paper, 'What is built': security types 2 and 3; refusals 9 and 10).
use Rattle.std.specs.Prelude.{ℕ, zero, suc, ◌/◌, Bool, false, List, length, take, drop, ◌==◌}
use Rattle.octets.specs.Choice.{both, either}
use Rattle.octets.specs.Numbers.{number_of}

-- the security types we take
unfoldable pub takes_type : ℕ → Bool
takes_type t = either (t == 2) (t == 3)

-- a number is one of the first n of a list of 16-bit numbers
unfoldable pub lists_by : ℕ → ℕ → List ℕ → Bool
lists_by zero x l = false
lists_by (suc n) x l = either (number_of (take 2 l) == x) (lists_by n x (drop 2 l))

-- 'our network number not in the list', 'its type not in the beacon's list': a number is in a list of 16-bit numbers
unfoldable pub lists : ℕ → List ℕ → Bool
lists x l = lists_by (length l / 2) x l

-- 'one number, 2 or 3'
unfoldable pub is_one_type : List ℕ → Bool
is_one_type l = both (length l == 2) (takes_type (number_of l))
