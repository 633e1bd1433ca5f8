-- Check values and keys (the paper, 'Check value and key'; document 004, 2.4).
use Rattle.std.specs.Prelude.{ℕ, List, [], ◌∷◌, ◌++◌, take}
use Rattle.std.specs.Int.Bits.{bit_xor}
use Rattle.octets.specs.Put.{zeroed}
use Rattle.object.specs.declared.family.Family.TheVariants.{Misp}
use Rattle.object.specs.Family.{limit_of}
use Rattle.md5_digest.specs.Md5.{md5_of}
use Rattle.hmac.specs.Hmac.{hmac_of}

-- the message with the check value's bytes zero (its type and length stay): join the sender's 6-byte address, then the receiver's; MD5 of that is the authentication data (DECISIONS, 21; no message is longer than its limit)
unfoldable pub authentication_of : ℕ → List ℕ → List ℕ → List ℕ → List ℕ
authentication_of at sender receiver m = md5_of (zeroed at (take (limit_of Misp) m) ++ (sender ++ receiver))

-- HMAC-MD5 of it is the check value; the key is the password in a request, the session key in success and terminating
unfoldable pub check_value : List ℕ → List ℕ → List ℕ
check_value key authentication = hmac_of key authentication

-- session key: HMAC-MD5 of the 16-byte seed under the password
unfoldable pub session_key : List ℕ → List ℕ → List ℕ
session_key password seed = hmac_of password seed

-- XOR, byte by byte
unfoldable pub xored : List ℕ → List ℕ → List ℕ
xored [] ys = []
xored (x ∷ xs) [] = []
xored (x ∷ xs) (y ∷ ys) = bit_xor x y ∷ xored xs ys

-- object 203: the session key XOR the HMAC-MD5 of the check value under the router secret; the same takes the mask off again
unfoldable pub masked : List ℕ → List ℕ → List ℕ → List ℕ
masked secret check key = xored key (hmac_of secret check)
