-- What callers use: the keyed start gives RFC 2104's nested hash, and a code is 16 bytes.
use mathlib.Core.Path.{◌≡◌, ap, ◌∙◌}
use mathlib.Core.List.{List, ◌++◌}
use Prim.Native.Nat.{ℕ}
use lib.ListN.{length}
use Rattle.md5_digest.specs.Md5.{md5_from, md5_of, start}
use Rattle.md5_digest.proofs.Md5Laws.{after_block, md5_length}
use Rattle.hmac.specs.Hmac.{actual_key, key_block, ipad, opad, keyed_by, keyed_of, hmac_from, hmac_of}
use Rattle.hmac.proofs.KeyLaws.{length_block, length_key}

-- from the states after the two blocks of a key: the nested hash of the concatenations
pub keyed_start : (k m : List ℕ) → hmac_from (keyed_of k) m ≡ hmac_of k m
unfolding hmac_from keyed_of keyed_by hmac_of md5_of
keyed_start k m =
    after_block (key_block opad (actual_key k)) _ start 0 (length_block opad (actual_key k) (length_key k))
    ∙ ap (λ (x : List ℕ). md5_from start 0 (key_block opad (actual_key k) ++ x))
    (after_block (key_block ipad (actual_key k)) m start 0 (length_block ipad (actual_key k) (length_key k)))

pub hmac_length : (k m : List ℕ) → length (hmac_of k m) ≡ 16
unfolding hmac_of
hmac_length k m = md5_length _
