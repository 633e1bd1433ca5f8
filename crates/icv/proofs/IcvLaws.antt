-- What callers use: every code is 16 bytes, and the mask of a key comes off again.
use Prim.Native.Nat.{ℕ, ◌≤◌}
use native.Mathlib.Omega.{arith}
use mathlib.Core.Path.{◌≡◌, ◌∙◌}
use mathlib.Core.List.{List}
use lib.ListN.{length, take, replicate}
use lib.Seq.{take_all}
use Rattle.octets.specs.Put.{put_in, zeroed}
use Rattle.octets.proofs.PutLaws.{put_in_length}
use Rattle.octets.proofs.PatchLaws.{put_in_again}
use Rattle.md5_digest.proofs.Md5Laws.{md5_length}
use Rattle.hmac.specs.Hmac.{hmac_of}
use Rattle.hmac.proofs.HmacLaws.{hmac_length}
use Rattle.icv.specs.Icv.{authentication_of, check_value, session_key, masked}
use Rattle.icv.proofs.XorLaws.{xored_length, xored_twice}

-- 16 bytes
pub authentication_length : (at : ℕ) (sender receiver m : List ℕ) → length (authentication_of at sender receiver m) ≡ 16
unfolding authentication_of
authentication_length at sender receiver m = md5_length _

-- what stands in the place of the check value does not count
pub authentication_put : (at : ℕ) (sender receiver m c : List ℕ) → length c ≡ 16 → length m ≤ 1500
    → authentication_of at sender receiver (put_in m at c) ≡ authentication_of at sender receiver m
unfolding authentication_of zeroed
authentication_put at sender receiver m c e h =
    let all : take 1500 (put_in m at c) ≡ put_in m at c = take_all 1500 (put_in m at c) (omega (arith, put_in_length m at c)) in
    rw (all, put_in_again m at c (replicate 16 0) e, take_all 1500 m h)

-- 16 bytes each
pub check_value_length : (key authentication : List ℕ) → length (check_value key authentication) ≡ 16
unfolding check_value
check_value_length key authentication = hmac_length key authentication

pub session_key_length : (password seed : List ℕ) → length (session_key password seed) ≡ 16
unfolding session_key
session_key_length password seed = hmac_length password seed

module _ (secret check key : List ℕ) (sixteen : length key ≡ 16) where
  -- 16 bytes, as the key
  pub masked_length : length (masked secret check key) ≡ 16
  unfolding masked
  masked_length = xored_length key (hmac_of secret check) (omega (arith, hmac_length secret check)) ∙ sixteen

  -- removing what was put on gives the key back
  pub mask_twice : masked secret check (masked secret check key) ≡ key
  unfolding masked
  mask_twice = xored_twice key (hmac_of secret check) (omega (arith, hmac_length secret check))
