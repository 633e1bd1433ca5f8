-- Numbers in bytes (the paper, 'MISP messages': numbers are most significant byte first; its paragraph on Position: signed numbers).
use Rattle.std.specs.Prelude.{ℕ, zero, suc, ◌+◌, ◌-◌, ◌*◌, ◌/◌, ◌%◌, ◌^◌, ◌<◌, List, [], ◌∷◌, ℤ, pos, negsuc, nat_lt, slice_index}
use Rattle.octets.specs.Choice.{pick}

-- each is a byte (past the end slice_index gives 0)
pub record Bytes (l : List ℕ) : Type 0 where
  pub small : (i : ℕ) → slice_index l i < 256

-- the number that bytes spell after the number n
abbrev pub number_from : ℕ → List ℕ → ℕ
number_from n [] = n
number_from n (b ∷ l) = number_from (n * 256 + b) l

-- the number that bytes spell, most significant byte first
unfoldable pub number_of : List ℕ → ℕ
number_of l = number_from 0 l

-- the k lowest bytes of a number, most significant byte first
unfoldable pub bytes_of : ℕ → ℕ → List ℕ
bytes_of zero n = []
bytes_of (suc k) n = (n / 256 ^ k % 256) ∷ bytes_of k n

-- two's complement of `bits` bits: from half of the range on a number stands for itself less 2 ^ bits (negsuc k is -1 - k)
unfoldable pub signed_of : ℕ → ℕ → ℤ
signed_of bits n = pick (nat_lt n (2 ^ (bits - 1))) (pos n) (negsuc (2 ^ bits - 1 - n))

-- and back: the number whose two's complement it is
unfoldable pub unsigned_of : ℕ → ℤ → ℕ
unsigned_of bits (pos n) = n
unsigned_of bits (negsuc n) = 2 ^ bits - 1 - n
