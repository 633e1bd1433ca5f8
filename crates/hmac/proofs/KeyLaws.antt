-- The block of a key, and the states after the two blocks of a key.
use mathlib.Core.Path.{◌≡◌, refl, sym, ap, ap₂, ◌∙◌}
use mathlib.Core.Bool.{Bool, true, false, cond}
use mathlib.Core.List.{List, ◌∷◌, ◌++◌, map, map-append}
use Prim.Native.Nat.{ℕ, zero, suc, ◌+◌, ◌-◌, ◌/◌, ◌<◌, ◌≤◌}
use native.Mathlib.Nat.{zero-add}
use native.Mathlib.Omega.{arith}
use lib.ListN.{length, get_or, drop, set, replicate, get_or-map, length-append, length-map, length-replicate}
use Rattle.std.proofs.lemmas.List.{drop-replicate}
use lib.Seq.{paste, paste-suc, take_all}
use lib.Bits.{bit_xor, xor_zero_l}
use lib.Dec.{ltb}
use borrow.Author.Tests.{ltb-false, lt-ltb, le-ltb}
use Rattle.md5_digest.specs.Md5.{blocks_of, md5_of, start}
use Rattle.md5_digest.specs.declared.State.{State}
use Rattle.md5_digest.proofs.Md5Laws.{md5_length}
use Rattle.hmac.specs.declared.Keyed.{Keyed}
use Rattle.hmac.specs.Hmac.{actual_key, key_block, ipad, opad, keyed_by, keyed_of}

-- each byte xor p
abbrev xors : ℕ → List ℕ → List ℕ
xors p l = map (λ b. bit_xor b p) l

-- of zeros p is left
xor_zeros : (p n : ℕ) → xors p (replicate n 0) ≡ replicate n p
xor_zeros p zero = refl
xor_zeros p (suc n) = ap₂ (λ (x : ℕ) (l : List ℕ). x ∷ l) (xor_zero_l p) (xor_zeros p n)

-- a block of p with the first i bytes of a key, each xor p, at its front
unfoldable pub key_front : ℕ → List ℕ → ℕ → List ℕ
key_front p k i = paste (replicate 64 p) 0 (xors p k) i

-- no byte yet; one more; all
pub front_none : (p : ℕ) (k : List ℕ) → replicate 64 p ≡ key_front p k 0
unfolding key_front
front_none p k = refl

module _ (p : ℕ) (k : List ℕ) (h : length k ≤ 64) where
  pub front_more : (i : ℕ) → i < length k → set (key_front p k i) i (bit_xor (get_or k i 0) p) ≡ key_front p k (suc i)
  unfolding key_front
  front_more i hi =
      let into : 0 + i < length (replicate 64 p) = simp length-replicate (omega arith) in
      let from : i < length (xors p k) = simp length-map (omega arith) in
      ap₂ (set (key_front p k i)) (sym (zero-add i)) (sym (get_or-map (λ b. bit_xor b p) k i 0))
      ∙ paste-suc (replicate 64 p) 0 (xors p k) i (bit_xor 0 p) into from

  pub front_all : key_front p k (length k) ≡ key_block p k
  unfolding key_front key_block
  front_all =
      let keys : length (xors p k) ≤ length k = simp length-map (omega arith) in
      let left : drop (0 + length k) (replicate 64 p) ≡ xors p (replicate (64 - length k) 0) =
      ap (λ (i : ℕ). drop i (replicate 64 p)) (zero-add (length k)) ∙ drop-replicate (length k) 64 p ∙ sym (xor_zeros p (64 - length k)) in
      ap₂ (λ (x y : List ℕ). x ++ y) (take_all (length k) (xors p k) keys) left ∙ sym (map-append (λ b. bit_xor b p) k (replicate (64 - length k) 0))

-- a block has 64 bytes, and the key as it counts has at most 64
pub length_block : (p : ℕ) (k : List ℕ) → length k ≤ 64 → length (key_block p k) ≡ 64
unfolding key_block
length_block p k h = simp (length-map, length-append, length-replicate) (omega arith)

chosen : (k : List ℕ) (b : Bool) → ltb 64 (length k) ≡ b → length (cond b (md5_of k) k) ≤ 64
chosen k true e = omega (arith, md5_length k)
chosen k false e = ltb-false 64 (length k) e

pub length_key : (k : List ℕ) → length (actual_key k) ≤ 64
unfolding actual_key
length_key k = chosen k (ltb 64 (length k)) refl

-- one block from the start
one_block : (b k : List ℕ) (s r : State) → b ≡ k → length k ≡ 64 → s ≡ start → r ≡ blocks_of (length b / 64) b s → r ≡ blocks_of 1 k start
one_block b k s r hb hk hs hr =
    let n : length b / 64 ≡ 1 = ap (λ (x : List ℕ). length x / 64) hb ∙ ap (λ (y : ℕ). y / 64) hk in
    hr ∙ ap (λ (y : ℕ). blocks_of y b s) n ∙ ap₂ (blocks_of 1) hb hs

-- bᵢ and bₒ are the two blocks, sᵢ and sₒ the states before them, and i and o those after them
pub keyed_by_law : (k bᵢ bₒ : List ℕ) (sᵢ sₒ i o : State) → length k ≤ 64 → bᵢ ≡ key_block ipad k → bₒ ≡ key_block opad k → sᵢ ≡ start → sₒ ≡ start
    → i ≡ blocks_of (length bᵢ / 64) bᵢ sᵢ → o ≡ blocks_of (length bₒ / 64) bₒ sₒ → ◌≡◌ {A = Keyed} (record { inner = i; outer = o }) (keyed_by k)
unfolding keyed_by
keyed_by_law k bᵢ bₒ sᵢ sₒ i o h eᵢ eₒ fᵢ fₒ gᵢ gₒ =
    let p : i ≡ blocks_of 1 (key_block ipad k) start = one_block bᵢ _ sᵢ i eᵢ (length_block ipad k h) fᵢ gᵢ in
    let q : o ≡ blocks_of 1 (key_block opad k) start = one_block bₒ _ sₒ o eₒ (length_block opad k h) fₒ gₒ in
    λ j. record { inner = p j; outer = q j }

-- a key of more than a block counts by its digest
pub long_key : (k d : List ℕ) (r : Keyed) → 64 < length k → d ≡ md5_of k → r ≡ keyed_by d → r ≡ keyed_of k
unfolding keyed_of actual_key
long_key k d r h e f = rw (lt-ltb 64 (length k) h) (f ∙ ap keyed_by e)

-- another as it is
pub short_key : (k : List ℕ) (r : Keyed) → length k ≤ 64 → r ≡ keyed_by k → r ≡ keyed_of k
unfolding keyed_of actual_key
short_key k r h f = rw (le-ltb 64 (length k) h) f
