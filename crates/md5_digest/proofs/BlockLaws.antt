-- The blocks of a message that is given in two parts.
use Rattle.std.proofs.Common.{◌≡◌, ℕ, zero, suc, ◌+◌, ◌*◌, ◌<◌, ◌≤◌, List, [], ◌∷◌, ◌++◌, length, get_or, drop, sym, refl, ap, ◌∙◌, ap₂, add-zero, zero-add, add_assoc, add-suc, arith, lit<, get_or-drop, take, get_or-take}
use lib.ListN.{get_or-append}
use Rattle.md5_digest.specs.declared.State.{State}
use Rattle.md5_digest.specs.Md5.{word_at, words_at, block_of, blocks_of}

-- where two lists have the same bytes they have the same word, and the same words
word_ext : (l l' : List ℕ) (i j : ℕ) → ((k : ℕ) → k < 4 → get_or l (i + k) 0 ≡ get_or l' (j + k) 0) → word_at l i ≡ word_at l' j
unfolding word_at
word_ext l l' i j h =
    let h₀ : get_or l i 0 ≡ get_or l' j 0 = simp add-zero at (h 0 (lit< tt)) in
    let h₁ = h 1 (lit< tt) in
    let h₂ = h 2 (lit< tt) in
    let h₃ = h 3 (lit< tt) in
    cc

words_ext : (l l' : List ℕ) (i j n : ℕ) → ((k : ℕ) → k < 4 * n → get_or l (i + k) 0 ≡ get_or l' (j + k) 0) → words_at l i n ≡ words_at l' j n
unfolding words_at
words_ext l l' i j zero h = refl
words_ext l l' i j (suc n) h =
    ap₂ (λ (x : List ℕ) (y : ℕ). x ++ (y ∷ []))
    (words_ext l l' i j n (λ k b. h k (omega arith)))
    (word_ext l l' (i + 4 * n) (j + 4 * n)
    (λ k b. ap (λ (x : ℕ). get_or l x 0) (add_assoc i (4 * n) k) ∙ h (4 * n + k) (omega arith) ∙ sym (ap (λ (x : ℕ). get_or l' x 0) (add_assoc j (4 * n) k))))

-- the blocks of a list's front are those of the list
pub front : (l e : List ℕ) (r : State) (m : ℕ) → 64 * m ≤ length l → blocks_of m (l ++ e) r ≡ blocks_of m l r
unfolding blocks_of
front l e r zero h = refl
front l e r (suc m) h =
    ap₂ block_of
    (words_ext (l ++ e) l (64 * m) (64 * m) 16 (λ k b. get_or-append l e 0 (64 * m + k) (omega arith)))
    (front l e r m (omega arith))

-- m blocks and n more
pub continued : (l : List ℕ) (r : State) (m n : ℕ) → blocks_of (m + n) l r ≡ blocks_of n (drop (64 * m) l) (blocks_of m l r)
unfolding blocks_of
continued l r m zero = rw add-zero
continued l r m (suc n) =
    rw add-suc
    (ap₂ block_of
    (words_ext l (drop (64 * m) l) (64 * (m + n)) (64 * n) 16
    (λ k b. let e : 64 * (m + n) + k ≡ 64 * m + (64 * n + k) = omega arith in ap (λ (x : ℕ). get_or l x 0) e ∙ sym (get_or-drop (64 * m) l (64 * n + k) 0)))
    (continued l r m n))

-- the words of a block, one more
pub words_more : (l : List ℕ) (n w : ℕ) → w ≡ word_at l (4 * n) → words_at l 0 n ++ (w ∷ []) ≡ words_at l 0 (suc n)
unfolding words_at
words_more l n w e = ap (λ (x : ℕ). words_at l 0 n ++ (x ∷ [])) (e ∙ ap (word_at l) (sym (zero-add (4 * n))))

-- the block at i, as a slice of it has it
pub next_block : (l p : List ℕ) (i : ℕ) (r : State) → p ≡ take 64 (drop (64 * i) l) → block_of (words_at p 0 16) (blocks_of i l r) ≡ blocks_of (suc i) l r
unfolding blocks_of
next_block l p i r e =
    ap (λ (x : List ℕ). block_of x (blocks_of i l r))
    (words_ext p l 0 (64 * i) 16 (λ k b. ap (λ (j : ℕ). get_or p j 0) (zero-add k) ∙ ap (λ (x : List ℕ). get_or x k 0) e ∙ get_or-take 64 (drop (64 * i) l) k 0 b ∙ get_or-drop (64 * i) l k 0))
