-- The first block with the field zero, and the hash that goes on from it.
use Prim.Native.Nat.{ℕ, min, ◌/◌, ◌≤◌, ◌<◌}
use native.Mathlib.Omega.{arith}
use mathlib.Core.Path.{◌≡◌, sym, ap, ap₂, ◌∙◌}
use mathlib.Core.List.{List, ◌++◌}
use lib.ListN.{length, take, drop, replicate, length-replicate, length-take}
use lib.Seq.{take_all, length-take-le}
use Rattle.octets.specs.Put.{put_in, fitted, zeroed}
use Rattle.octets.proofs.PutLaws.{put_start, put_in_fits, put_in_length, written_changed}
use Rattle.octets.proofs.PatchLaws.{put_in_front}
use Rattle.octets.proofs.FittedLaws.{fitted_put, fitted_is, fitted_start}
use Rattle.md5_digest.specs.declared.State.{State}
use Rattle.md5_digest.specs.Md5.{blocks_of, md5_from}
use Rattle.md5_digest.proofs.Md5Laws.{after_block}
use Rattle.hmac.specs.declared.Keyed.{Keyed}
use Rattle.hmac.specs.Hmac.{keyed_of, hmac_from}
use Rattle.hmac.proofs.HmacLaws.{keyed_start}
use Rattle.authenticator.specs.Authenticator.{authenticator_of}

-- the length stays
pub zero_length : (m : List ℕ) → length (zeroed 4 m) ≡ length m
unfolding zeroed
zero_length m = put_in_length m 4 (replicate 16 0)

-- the field stands in the first block
zero_front : (m : List ℕ) → 64 ≤ length m → zeroed 4 m ≡ zeroed 4 (take 64 m) ++ drop 64 m
unfolding zeroed
zero_front m h = put_in_front m 4 (replicate 16 0) 64 (omega arith) h

-- a is a block with the start of a message in it, and z the part of it that the message fills, with the field zero
pub block_is : (m a z : List ℕ) (n : ℕ) → a ≡ fitted 64 m → n ≡ min (length m) 64 → z ≡ zeroed 4 (take n a) → z ++ drop n a ≡ fitted 64 (zeroed 4 (take 64 m))
block_is m a z n ea en ez =
    let area : List ℕ = replicate 64 0 in
    let wide : length area ≡ 64 = length-replicate {A = ℕ} 64 0 in
    let front : List ℕ = take 64 m in
    let size : n ≡ length front = simp length-take (omega arith) in
    let y : List ℕ = zeroed 4 front in
    let long : length y ≡ length front = zero_length front in
    (written_changed (zeroed 4) area front (omega arith) long (ea ∙ sym (fitted_put 64 m)) (ap₂ (λ (x : List ℕ) (k : ℕ). x ++ drop k a) (ez ∙ ap (λ (k : ℕ). zeroed 4 (take k a)) size) size)).is
    ∙ sym (put_start area y)
    ∙ sym (put_in_fits area 0 y (omega arith))
    ∙ ap (put_in area 0) (sym (take_all 64 y (omega arith)))
    ∙ fitted_put 64 y

-- a message of less than a block
pub short_message : (secret m block : List ℕ) (k : Keyed) (r : List ℕ) → length m < 64 → k ≡ keyed_of secret → block ≡ fitted 64 (zeroed 4 (take 64 m))
    → r ≡ hmac_from k (take (length m) block) → r ≡ authenticator_of secret m
unfolding authenticator_of
short_message secret m block k r h ek eb er =
    let long : length (zeroed 4 m) ≡ length m = zero_length m in
    let whole : block ≡ fitted 64 (zeroed 4 m) = eb ∙ ap (λ (x : List ℕ). fitted 64 (zeroed 4 x)) (take_all 64 m (omega arith)) in
    let start : take (length m) block ≡ zeroed 4 m =
    ap₂ take (sym long) whole ∙ fitted_start 64 (zeroed 4 m) (omega arith) in
    er ∙ ap₂ hmac_from ek start ∙ keyed_start secret (zeroed 4 m)

-- a message of a block or more
pub long_message : (secret m block rest digest r : List ℕ) (k : Keyed) (s : State) → 64 ≤ length m → k ≡ keyed_of secret
    → block ≡ fitted 64 (zeroed 4 (take 64 m)) → s ≡ blocks_of (length block / 64) block k.inner → rest ≡ drop 64 m
    → digest ≡ md5_from s 128 rest → r ≡ md5_from k.outer 64 digest → r ≡ authenticator_of secret m
unfolding authenticator_of hmac_from
long_message secret m block rest digest r k s h ek eb es el ed er =
    let z : List ℕ = zeroed 4 (take 64 m) in
    let long : length z ≡ 64 = zero_length (take 64 m) ∙ length-take-le 64 m h in
    let block_is_z : block ≡ z = eb ∙ fitted_is 64 z long in
    let one : length block / 64 ≡ 1 = ap (λ (l : List ℕ). length l / 64) block_is_z ∙ ap (λ (n : ℕ). n / 64) long in
    let s_is : s ≡ blocks_of 1 z k.inner = es ∙ ap₂ (λ (n : ℕ) (l : List ℕ). blocks_of n l k.inner) one block_is_z in
    let digest_is : digest ≡ md5_from k.inner 64 (zeroed 4 m) =
    ed
    ∙ ap₂ (λ (q : State) (l : List ℕ). md5_from q 128 l) s_is el
    ∙ after_block z (drop 64 m) k.inner 64 long
    ∙ ap (md5_from k.inner 64) (sym (zero_front m h)) in
    er
    ∙ ap (md5_from k.outer 64) digest_is
    ∙ ap (λ (q : Keyed). hmac_from q (zeroed 4 m)) ek
    ∙ keyed_start secret (zeroed 4 m)
