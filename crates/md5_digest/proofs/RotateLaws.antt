-- A rotation of 32 bits is two shifts and an `or`.
use Rattle.std.proofs.Common.{◌≡◌, ℕ, zero, suc, ◌+◌, ◌-◌, ◌*◌, ◌/◌, ◌%◌, ◌^◌, ◌<◌, sym, ap, ◌∙◌, subst, ap₂, add-zero, arith, shr_lt}
use native.Mathlib.Nat.{mul-mod_left}
use lib.Pow.{mod-pow-add, shl-shr}
use lib.Bits.{bit_or, or_shifted, or_self}
use Rattle.md5_digest.specs.Md5.{◌⋘◌}

-- the part of x * 2 ^ k below 2 ^ (j + k)
shl_mod : (x j k : ℕ) → (x * 2 ^ k) % 2 ^ (j + k) ≡ (x % 2 ^ j) * 2 ^ k
shl_mod x j k = mod-pow-add (x * 2 ^ k) j k ∙ rw (shl-shr x k, mul-mod_left x (2 ^ k), add-zero)

-- both parts do not overlap: `or` is their sum
parts : (x j k : ℕ) → x < 2 ^ (k + j) → bit_or ((x * 2 ^ k) % 2 ^ (j + k)) (x / 2 ^ j) ≡ (x * 2 ^ k) % 2 ^ (j + k) + x / 2 ^ j
parts x j k h = rw (shl_mod x j k) (or_shifted (x % 2 ^ j) k (x / 2 ^ j) (shr_lt k j h))

-- a shift by k, below 32
some : (x k : ℕ) → x < 2 ^ 32 → k < 32 → bit_or ((x * 2 ^ k) % 2 ^ 32) (x / 2 ^ (32 - k)) ≡ (x * 2 ^ k) % 2 ^ 32 + x / 2 ^ (32 - k)
some x k h hk =
    let e : (32 - k) + k ≡ 32 = omega arith in
    let e' : k + (32 - k) ≡ 32 = omega arith in
    subst (λ (w : ℕ). bit_or ((x * 2 ^ k) % 2 ^ w) (x / 2 ^ (32 - k)) ≡ (x * 2 ^ k) % 2 ^ w + x / 2 ^ (32 - k)) e
    (parts x (32 - k) k (subst (λ (w : ℕ). x < 2 ^ w) (sym e') h))

-- by no bit
none : (x : ℕ) → x < 2 ^ 32 → bit_or ((x * 1) % 2 ^ 32) (x / 1) ≡ (x * 1) % 2 ^ 32 + x / 2 ^ 32
none x h =
    let low : (x * 1) % 2 ^ 32 ≡ x = omega arith in
    let whole : x / 1 ≡ x = omega arith in
    let high : x / 2 ^ 32 ≡ 0 = omega arith in
    ap₂ bit_or low whole ∙ or_self x ∙ sym (ap₂ ◌+◌ low high ∙ add-zero x)

-- by any number of bits below 32
by_any : (x k : ℕ) → x < 2 ^ 32 → k < 32 → bit_or ((x * 2 ^ k) % 2 ^ 32) (x / 2 ^ ((32 - k) % 32)) ≡ (x * 2 ^ k) % 2 ^ 32 + x / 2 ^ (32 - k)
by_any x zero h hk = none x h
by_any x (suc k) h hk =
    let e : (32 - suc k) % 32 ≡ 32 - suc k = omega arith in
    ap (λ (w : ℕ). bit_or ((x * 2 ^ suc k) % 2 ^ 32) (x / 2 ^ w)) e ∙ some x (suc k) h hk

-- the code's rotation
pub rotated : (x s : ℕ) → x < 2 ^ 32 → bit_or ((x * 2 ^ (s % 32)) % 2 ^ 32) (x / 2 ^ ((32 - s % 32) % 32)) ≡ (x ⋘ s)
unfolding ◌⋘◌
rotated x s h = by_any x (s % 32) h (omega arith)
