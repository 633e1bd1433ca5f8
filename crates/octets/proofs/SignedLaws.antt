-- Two's complement: what is read and what is written undo each other, at every number of bits; and the signed types hold just that.
use Prim.Native.Nat.{ℕ, zero, suc, ◌-◌, ◌*◌, ◌^◌, ◌≤◌, ◌<◌}
use mathlib.Core.Bool.{Bool, true, false}
use mathlib.Core.Path.{◌≡◌, refl, ap, ◌∙◌}
use native.Mathlib.Omega.{arith}
use native.Mathlib.Nat.{pow-suc}
use lib.Dec.{T, ltb}
use lib.IntN.{ℤ, pos, negsuc, nat_abs}
use lib.Pow.{pow_pos}
use lib.Signed.{mag, non_neg, le_z}
use borrow.Author.Tests.{lt-ltb, le-ltb, ltb-true, ltb-false, leb-false}
use mir.Syntax.{Width, w8, w16, w32, w64, w128}
use mir.Val.{bits, hbits, Fits, SFits, of_z, to_z, sel}
use mir.ValLaws.{to_z-of_z, of_z-to_z}
use Rattle.octets.specs.Choice.{pick}
use Rattle.octets.specs.Numbers.{signed_of, unsigned_of}
use Rattle.octets.proofs.ChoiceLaws.{never, pick_all}

-- half of the range, twice
double : (b : ℕ) → 0 < b → 2 ^ b ≡ 2 ^ (b - 1) * 2
double zero h = absurd (omega arith)
double (suc b) h = let e : suc b - 1 ≡ b = omega arith in rw e (pow-suc 2 b)

-- below half of the range, and from there on
pub signed_low : (b n : ℕ) → n < 2 ^ (b - 1) → signed_of b n ≡ pos n
unfolding signed_of
signed_low b n h = rw (lt-ltb n (2 ^ (b - 1)) h)

pub signed_high : (b n : ℕ) → 2 ^ (b - 1) ≤ n → signed_of b n ≡ negsuc (2 ^ b - 1 - n)
unfolding signed_of
signed_high b n h = rw (le-ltb n (2 ^ (b - 1)) h)

-- both stay in range
pub signed_small : (b n : ℕ) → 0 < b → n < 2 ^ b → mag (signed_of b n) < 2 ^ (b - 1)
unfolding signed_of
signed_small b n p h =
    pick_all (λ (z : ℤ). mag z < 2 ^ (b - 1)) (ltb n (2 ^ (b - 1))) (pos n) (negsuc (2 ^ b - 1 - n))
    (λ e. ltb-true n (2 ^ (b - 1)) e)
    (λ e. omega (arith, double b p, ltb-false n (2 ^ (b - 1)) e))

pub unsigned_small : (b : ℕ) (z : ℤ) → 0 < b → mag z < 2 ^ (b - 1) → unsigned_of b z < 2 ^ b
unfolding unsigned_of
unsigned_small b (pos n) p h = omega (arith, double b p)
unsigned_small b (negsuc n) p h = omega (arith, pow_pos b)

-- each undoes the other
pub unsigned_signed : (b n : ℕ) → n < 2 ^ b → unsigned_of b (signed_of b n) ≡ n
unfolding signed_of unsigned_of
unsigned_signed b n h =
    pick_all (λ (z : ℤ). unsigned_of b z ≡ n) (ltb n (2 ^ (b - 1))) (pos n) (negsuc (2 ^ b - 1 - n)) (λ _. refl) (λ _. omega arith)

pub signed_unsigned : (b : ℕ) (z : ℤ) → 0 < b → mag z < 2 ^ (b - 1) → signed_of b (unsigned_of b z) ≡ z
unfolding unsigned_of
signed_unsigned b (pos n) p h = signed_low b n h
signed_unsigned b (negsuc n) p h =
    let e : 2 ^ b - 1 - (2 ^ b - 1 - n) ≡ n = omega (arith, double b p) in
    signed_high b (2 ^ b - 1 - n) (omega (arith, double b p)) ∙ ap negsuc e

-- what the machine's bits say
read : (t : Bool) (x y z : ℤ) → y ≡ z → sel t x y ≡ pick t x z
read true x y z e = refl
read false x y z e = e

-- half of the range has one bit less
half : (w : Width) → hbits w ≡ bits w - 1
half w8 = refl
half w16 = refl
half w32 = refl
half w64 = refl
half w128 = refl

module _ (w : Width) where
  -- the bits read as a signed number
  pub signed_is : (n : ℕ) → to_z w n ≡ signed_of (bits w) n
  unfolding signed_of
  signed_is n =
      let e : 2 ^ bits w - suc n ≡ 2 ^ bits w - 1 - n = omega arith in
      read (ltb n (2 ^ hbits w)) (pos n) (negsuc (2 ^ bits w - suc n)) (negsuc (2 ^ bits w - 1 - n)) (ap negsuc e)
      ∙ ap (λ (h : ℕ). pick (ltb n (2 ^ h)) (pos n) (negsuc (2 ^ bits w - 1 - n))) (half w)

  -- the same of what std's cast hands back
  pub signed_cast : (n : ℕ) {z : ℤ} → z ≡ to_z w n → Fits w n → to_z w (of_z w z) ≡ signed_of (bits w) n
  signed_cast n {z} e f = rw (e, of_z-to_z w n f) (signed_is n)

  -- and the bits of a signed number
  pub unsigned_is : (z : ℤ) → of_z w z ≡ unsigned_of (bits w) z
  unfolding unsigned_of
  unsigned_is (pos n) = refl
  unsigned_is (negsuc n) = omega arith

  -- the same of a number as code hands it to std's cast
  pub unsigned_cast : (z : ℤ) → SFits w z → of_z w (to_z w (of_z w z)) ≡ unsigned_of (bits w) z
  unsigned_cast z f = rw (to_z-of_z w z f) (unsigned_is z)
