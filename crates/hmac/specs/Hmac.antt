-- HMAC as RFC 2104 defines it, with MD5: B is 64 bytes and L is 16.
use Rattle.std.specs.Prelude.{ℕ, ◌-◌, cond, List, ◌++◌, map, length, replicate, nat_lt}
use Rattle.std.specs.Int.Bits.{bit_xor}
use Rattle.md5_digest.specs.Md5.{blocks_of, md5_from, md5_of, start}
use Rattle.hmac.specs.declared.Keyed.{Keyed}

-- RFC 2104, 2: a key longer than B bytes is first hashed
unfoldable pub actual_key : List ℕ → List ℕ
actual_key k = cond (nat_lt 64 (length k)) (md5_of k) k

-- RFC 2104, 2, steps 1, 2 and 5: zeros to the end of the key to make B bytes, each xor the byte p
unfoldable pub key_block : ℕ → List ℕ → List ℕ
key_block p k = map (λ b. bit_xor b p) (k ++ replicate (64 - length k) 0)

-- RFC 2104, 2: ipad, the byte 0x36 repeated B times
abbrev pub ipad : ℕ
ipad = 0x36

-- RFC 2104, 2: opad, the byte 0x5c repeated B times
abbrev pub opad : ℕ
opad = 0x5c

-- RFC 2104, 2: H(K XOR opad, H(K XOR ipad, text))
unfoldable pub hmac_of : List ℕ → List ℕ → List ℕ
hmac_of k m = md5_of (key_block opad (actual_key k) ++ md5_of (key_block ipad (actual_key k) ++ m))

-- RFC 2104, 4: the states after the blocks (K XOR ipad) and (K XOR opad), for K of at most B bytes
unfoldable pub keyed_by : List ℕ → Keyed
keyed_by k = record { inner = blocks_of 1 (key_block ipad k) start; outer = blocks_of 1 (key_block opad k) start }

-- RFC 2104, 4: the states that may be kept in place of a key
unfoldable pub keyed_of : List ℕ → Keyed
keyed_of k = keyed_by (actual_key k)

-- RFC 2104, 4: the code of a message from kept states, each of which a block of 64 bytes led to
unfoldable pub hmac_from : Keyed → List ℕ → List ℕ
hmac_from s m = md5_from s.outer 64 (md5_from s.inner 64 m)
