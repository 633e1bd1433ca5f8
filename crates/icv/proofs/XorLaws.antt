-- Byte by byte XOR: what was put on comes off again.
use Prim.Native.Nat.{ℕ, zero, suc, ◌+◌, ◌/◌, ◌%◌, ◌<◌, ◌≤◌}
use native.Mathlib.Omega.{arith}
use native.Mathlib.Numerals.{add-one}
use mathlib.Core.Path.{◌≡◌, refl, ap, ap₂, ◌∙◌}
use mathlib.Core.List.{List, [], ◌∷◌}
use lib.Arith.{bin_ind}
use lib.Bits.{bit_xor, differ, xor_step, xor_self, xor_zero_l, xor_shr, xor_mod}
use lib.ListN.{length, get_or, take, set}
use lib.Seq.{take-suc, take-suc-set}
use Rattle.icv.specs.Icv.{xored}

-- of one bit
bit_twice : (a b : ℕ) → a < 2 → b < 2 → differ (bit_xor a b) b ≡ a
bit_twice zero zero p q = refl
bit_twice zero (suc zero) p q = refl
bit_twice (suc zero) zero p q = refl
bit_twice (suc zero) (suc zero) p q = refl
bit_twice zero (suc (suc b)) p q = absurd (omega arith)
bit_twice (suc zero) (suc (suc b)) p q = absurd (omega arith)
bit_twice (suc (suc a)) b p q = absurd (omega arith)

-- of a number
pub xor_twice : (a b : ℕ) → bit_xor (bit_xor a b) b ≡ a
xor_twice a b = bin_ind (λ (n : ℕ). (b : ℕ) → bit_xor (bit_xor n b) b ≡ n) none more a b
  where
    none : (b : ℕ) → bit_xor (bit_xor zero b) b ≡ zero
    none b = rw (xor_zero_l b) (xor_self b)

    more : (n : ℕ) → ((b : ℕ) → bit_xor (bit_xor (n / 2) b) b ≡ n / 2) → (b : ℕ) → bit_xor (bit_xor n b) b ≡ n
    more n h b =
        let high : bit_xor n b / 2 ≡ bit_xor (n / 2) (b / 2) = xor_shr n b 1 in
        let low : bit_xor n b % 2 ≡ bit_xor (n % 2) (b % 2) = xor_mod n b 1 in
        let bit : differ (bit_xor (n % 2) (b % 2)) (b % 2) ≡ n % 2 = bit_twice (n % 2) (b % 2) (omega arith) (omega arith) in
        xor_step (bit_xor n b) b ∙ rw (high, low, h (b / 2), bit) (omega arith)

-- of byte strings: the length, and each byte
pub xored_length : (a b : List ℕ) → length a ≤ length b → length (xored a b) ≡ length a
unfolding xored
xored_length [] b h = refl
xored_length (x ∷ a) [] h = absurd (omega arith)
xored_length (x ∷ a) (y ∷ b) h = ap suc (xored_length a b (omega arith))

pub xored_at : (a b : List ℕ) (i : ℕ) → i < length a → i < length b → get_or (xored a b) i 0 ≡ bit_xor (get_or a i 0) (get_or b i 0)
unfolding xored
xored_at [] b i p q = absurd (omega arith)
xored_at (x ∷ a) [] i p q = absurd (omega arith)
xored_at (x ∷ a) (y ∷ b) zero p q = refl
xored_at (x ∷ a) (y ∷ b) (suc i) p q = xored_at a b i (omega arith) (omega arith)

-- the same taken off again
pub xored_twice : (a b : List ℕ) → length a ≤ length b → xored (xored a b) b ≡ a
unfolding xored
xored_twice [] b h = refl
xored_twice (x ∷ a) [] h = absurd (omega arith)
xored_twice (x ∷ a) (y ∷ b) h = ap₂ ◌∷◌ (xor_twice x y) (xored_twice a b (omega arith))

-- one byte more
pub xored_next : (a b t : List ℕ) (i : ℕ) → i < length a → length a ≡ length b → length t ≡ length a → take i t ≡ take i (xored a b)
    → take (i + 1) (set t i (bit_xor (get_or a i 0) (get_or b i 0))) ≡ take (i + 1) (xored a b)
xored_next a b t i h e f p =
    let long = xored_length a b (omega arith) in
    let at = xored_at a b i h (omega arith) in
    rw (add-one, take-suc-set t i (bit_xor (get_or a i 0) (get_or b i 0)) (omega arith), take-suc (xored a b) i 0 (omega arith), at, p)
