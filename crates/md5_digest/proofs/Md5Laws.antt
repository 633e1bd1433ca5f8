-- What callers use: hashing goes on from the state after whole blocks, and a digest is 16 bytes.
use Rattle.std.proofs.Common.{◌≡◌, ℕ, ◌+◌, ◌-◌, ◌*◌, ◌/◌, ◌≤◌, List, ◌++◌, length, take, drop, sym, refl, ap, ◌∙◌, ap₂, arith, length-append, length-drop, take_all, drop_at}
use lib.Seq.{drop-append-le}
use Rattle.md5_digest.specs.declared.State.{State}
use Rattle.md5_digest.specs.Md5.{blocks_of, low_first, zeros_after, padding, bit_count, padded, digest_of, start, md5_from, md5_of}
use Rattle.md5_digest.specs.Parts.{PaddedLength, tail_of}
use Rattle.md5_digest.proofs.BlockLaws.{front, continued}

-- m blocks more: the count of blocks, and the same zeros
div_more : (a m b : ℕ) → a ≡ 64 * m + b → a / 64 ≡ m + b / 64
div_more a m b e = omega arith

zeros_same : (a m b : ℕ) → a ≡ 64 * m + b → zeros_after b ≡ zeros_after a
zeros_same a m b e = omega arith

-- from the state after m blocks, with the bytes after them
pub resume : (l : List ℕ) (r : State) (done m : ℕ) → 64 * m ≤ length l → md5_from (blocks_of m l r) (done + 64 * m) (drop (64 * m) l) ≡ md5_from r done l
unfolding md5_from padded
resume l r done m h =
    let rest : List ℕ = drop (64 * m) l in
    let len : length l ≡ 64 * m + length rest = omega (arith, length-drop (64 * m) l) in
    let e : List ℕ = padding (zeros_after (length l)) (bit_count (done + length l)) in
    let count : done + 64 * m + length rest ≡ done + length l = omega arith in
    let rest_is : rest ++ padding (zeros_after (length rest)) (bit_count (done + 64 * m + length rest)) ≡ rest ++ e =
    ap₂ (λ (z n : ℕ). rest ++ padding z (bit_count n)) (zeros_same (length l) m (length rest) len) count in
    let whole : length (l ++ e) / 64 ≡ m + length (rest ++ e) / 64 =
    div_more (length (l ++ e)) m (length (rest ++ e)) (simp length-append (omega arith)) in
    ap digest_of
    (ap (λ (p : List ℕ). blocks_of (length p / 64) p (blocks_of m l r)) rest_is
    ∙ sym
    (ap (λ (n : ℕ). blocks_of n (l ++ e) r) whole ∙ continued (l ++ e) r m (length (rest ++ e) / 64)
    ∙ ap₂ (λ (p : List ℕ) (q : State). blocks_of (length (rest ++ e) / 64) p q) (drop-append-le (64 * m) l e h) (front l e r m h)))

-- from the state after a first block k
pub after_block : (k m : List ℕ) (r : State) (done : ℕ) → length k ≡ 64 → md5_from (blocks_of 1 k r) (done + 64) m ≡ md5_from r done (k ++ m)
after_block k m r done h =
    ap₂ (λ (q : State) (l : List ℕ). md5_from q (done + 64) l) (sym (front k m r 1 (omega arith))) (sym (drop_at k m 64 h))
    ∙ resume (k ++ m) r done 1 (simp length-append (omega arith))

-- the whole blocks of l, and then u, which is the rest of l with its padding
pub whole : (l rest u : List ℕ) (r : State) (done n : ℕ) → rest ≡ take (length l - length l / 64 * 64) (drop (length l / 64 * 64) l)
    → PaddedLength (length rest) n → u ≡ tail_of rest n (bit_count (done + length l))
    → digest_of (blocks_of (length u / 64) u (blocks_of (length l / 64) l r)) ≡ md5_from r done l
unfolding md5_from padded
whole l rest u r done n hr hn hu =
    let m : ℕ = length l / 64 in
    let at : length l / 64 * 64 ≡ 64 * m = omega arith in
    let fits : 64 * m ≤ length l = omega arith in
    let left : length (drop (length l / 64 * 64) l) ≤ length l - length l / 64 * 64 = omega (arith, length-drop (length l / 64 * 64) l) in
    let tail_is : rest ≡ drop (64 * m) l = hr ∙ take_all _ _ left ∙ ap (λ (k : ℕ). drop k l) at in
    let count : done + length l ≡ done + 64 * m + length rest = omega (arith, ap length tail_is, length-drop (64 * m) l) in
    let zeros : n - 9 - length rest ≡ zeros_after (length rest) = omega (arith, hn.zeros) in
    let u_is : u ≡ padded (done + 64 * m) rest = hu ∙ ap₂ (λ (z k : ℕ). rest ++ padding z (bit_count k)) zeros count in
    ap (λ (p : List ℕ). digest_of (blocks_of (length p / 64) p (blocks_of m l r))) (u_is ∙ ap (padded (done + 64 * m)) tail_is)
    ∙ resume l r done m fits

-- 16 bytes
pub md5_from_length : (r : State) (done : ℕ) (l : List ℕ) → length (md5_from r done l) ≡ 16
unfolding md5_from digest_of low_first
md5_from_length r done l = refl

pub md5_length : (l : List ℕ) → length (md5_of l) ≡ 16
unfolding md5_of
md5_length l = md5_from_length start 0 l
