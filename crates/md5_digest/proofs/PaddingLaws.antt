-- A rest of a message with its padding, as the code puts it together.
use Rattle.std.proofs.Common.{◌≡◌, ℕ, zero, suc, ◌+◌, ◌-◌, ◌/◌, ◌%◌, ◌<◌, ◌≤◌, List, ◌∷◌, ◌++◌, length, take, drop, set, replicate, refl, ap, ◌∙◌, ap₂, append_assoc, arith, length-append}
use lib.ListN.{length-replicate}
use lib.Seq.{take-append-add, set-append_seam}
use borrow.Rule.Slice.PartMut.{put_mid}
use Rattle.std.proofs.lemmas.List.{take-replicate, drop-replicate}
use Rattle.std.proofs.lemmas.Slice.{take-put_mid}
use Rattle.md5_digest.specs.Md5.{low_first, zeros_after, padding}
use Rattle.md5_digest.specs.Parts.{tail_of}

-- n bytes
pub length_bytes : (n x : ℕ) → length (low_first n x) ≡ n
unfolding low_first
length_bytes zero x = refl
length_bytes (suc n) x = ap suc (length_bytes n (x / 256))

-- RFC 1321, 3.1: with the bit 1 and the zeros a message is 56 bytes modulo 64, 448 bits modulo 512
pub zeros_fill : (n : ℕ) → (n + 1 + zeros_after n) % 64 ≡ 56
zeros_fill n = omega arith

abbrev zeros : ℕ → List ℕ
zeros n = replicate n 0

-- zeros with l at the front and 128 after it
marked : (l : List ℕ) → length l < 128 → set (l ++ drop (length l) (zeros 128)) (length l) 128 ≡ l ++ 128 ∷ zeros (127 - length l)
marked l h =
    let n : 128 - length l ≡ suc (127 - length l) = omega arith in
    let left : drop (length l) (zeros 128) ≡ 0 ∷ zeros (127 - length l) = drop-replicate (length l) 128 0 ∙ ap zeros n in
    ap (λ (x : List ℕ). set (l ++ x) (length l) 128) left ∙ set-append_seam l 0 (zeros (127 - length l)) 128

-- a is the rest, and b the bytes of the count; both stand in zeros, and the mark after the rest
pub filled : (l a b : List ℕ) (n bits k : ℕ) → length l + 9 ≤ n → n ≤ 128 → a ≡ l → b ≡ low_first 8 bits
    → take n (put_mid (n - 8) k (set (a ++ drop (length l) (zeros 128)) (length l) 128) b) ≡ tail_of l n bits
unfolding padding low_first
filled l a b n bits k low high ha hb =
    let t : List ℕ = set (a ++ drop (length l) (zeros 128)) (length l) 128 in
    let e : t ≡ l ++ 128 ∷ zeros (127 - length l) = ap (λ (x : List ℕ). set (x ++ drop (length l) (zeros 128)) (length l) 128) ha ∙ marked l (omega arith) in
    let t_len : length t ≡ 128 = ap length e ∙ simp (length-append, length-replicate) (omega arith) in
    let b_len : length b ≡ 8 = ap length hb in
    let m : n - 8 ≡ length l + suc (n - 9 - length l) = omega arith in
    let front : take (n - 8) t ≡ l ++ 128 ∷ zeros (n - 9 - length l) =
    ap₂ take m e ∙ take-append-add l _ (suc (n - 9 - length l))
    ∙ ap (λ (x : List ℕ). l ++ 128 ∷ x) (take-replicate (n - 9 - length l) (127 - length l) 0 (omega arith)) in
    take-put_mid (n - 8) k t b n (omega arith) (omega arith) ∙ ap₂ (λ (x y : List ℕ). x ++ y) front hb ∙ append_assoc l _ _
