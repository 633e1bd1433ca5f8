-- Numbers in bytes: reading undoes writing and writing undoes reading, at every width; numbers are the same where their bytes are.
use Prim.Native.Nat.{ℕ, zero, suc, ◌+◌, ◌*◌, ◌/◌, ◌%◌, ◌^◌, ◌≤◌, ◌<◌}
use mathlib.Core.Path.{◌≡◌, refl, sym, ap, ap₂, ◌∙◌}
use mathlib.Core.List.{List, [], ◌∷◌, ◌++◌}
use native.Mathlib.Omega.{arith}
use native.Mathlib.Nat.{pow-suc, pow-succ', pow-le-pow_right, one-le-pow, zero-add, zero-mul, zero-div, mod-eq_of_lt, mul-add-div_right, mul-add-mod_self_right, lt_of_lt_of_le}
use native.Mathlib.Numerals.{add-one}
use lib.Arith.{digits_lt, digits_div, mod-mul}
use lib.Dec.{eqb, lit<}
use lib.ListN.{length, get_or, take, drop, replicate, length-take}
use lib.Pow.{pow-add}
use lib.Seq.{take-suc, take_all}
use borrow.Author.Tests.{eqb-true, eqb-false}
use Rattle.octets.specs.Numbers.{Bytes, number_from, number_of, bytes_of}
use Rattle.octets.specs.Same.{same_bytes}
use Rattle.octets.proofs.ChoiceLaws.{same_test}
use Rattle.octets.proofs.BytesLaws.{bytes_tail, bytes_head, bytes_take, part_bytes}
use Rattle.octets.proofs.SameLaws.{true_same, false_same}

-- no power of 256 is 0
power : (k : ℕ) → 0 < 256 ^ k
power k = one-le-pow k 256 (lit< tt)

-- a string after another
pub number_append : (n : ℕ) (a b : List ℕ) → number_from n (a ++ b) ≡ number_from (number_from n a) b
number_append n [] b = refl
number_append n (x ∷ a) b = number_append (n * 256 + x) a b

-- the number before counts by the power of the length
pub number_from_law : (n : ℕ) (l : List ℕ) → number_from n l ≡ n * 256 ^ length l + number_of l
unfolding number_of
number_from_law n [] = omega arith
number_from_law n (b ∷ l) =
    number_from_law (n * 256 + b) l
    ∙ rw (pow-suc, number_from_law (0 * 256 + b) l) (omega arith)

-- the first byte counts by the power of how many follow it
pub number_cons : (b : ℕ) (l : List ℕ) → number_of (b ∷ l) ≡ b * 256 ^ length l + number_of l
unfolding number_of
number_cons b l = number_from_law (0 * 256 + b) l ∙ rw (zero-mul, zero-add)

-- one byte more
pub number_next : (l : List ℕ) (i : ℕ) → i < length l → number_of (take (i + 1) l) ≡ number_of (take i l) * 256 + get_or l i 0
unfolding number_of
number_next l i h = rw (add-one, take-suc l i 0) (number_append 0 (take i l) (get_or l i 0 ∷ []))

-- a number is below the power of its length
pub number_small : (l : List ℕ) → Bytes l → number_of l < 256 ^ length l
unfolding number_of
number_small [] h = lit< tt
number_small (b ∷ l) h =
    rw (number_cons b l, pow-succ') (digits_lt (bytes_head h) (number_small l (bytes_tail h)))

-- the same, for as many bytes as k at most
pub number_below : (k : ℕ) (l : List ℕ) → length l ≤ k → Bytes l → number_of l < 256 ^ k
number_below k l h b = lt_of_lt_of_le (number_small l b) (pow-le-pow_right (lit< tt) h)

-- the number of at most k bytes at an offset
pub number_part_small : (k at : ℕ) (s : List ℕ) → Bytes s → number_of (take k (drop at s)) < 256 ^ k
number_part_small k at s b = number_below k (take k (drop at s)) (simp length-take (omega arith)) (part_bytes k at s b)

-- read by way of a part, of which the first eight bytes count
pub number_part : (k at : ℕ) (s p : List ℕ) (r : ℕ) → k ≤ 8 → p ≡ take k (drop at s) → r ≡ number_of (take 8 p)
    → r ≡ number_of (take k (drop at s))
number_part k at s p r h e q =
    q ∙ ap number_of (ap (take 8) e ∙ take_all 8 (take k (drop at s)) (simp length-take (omega arith)))

-- k bytes of any number; of 0 they are zeros
pub bytes_length : (k n : ℕ) → length (bytes_of k n) ≡ k
unfolding bytes_of
bytes_length zero n = refl
bytes_length (suc k) n = ap suc (bytes_length k n)

pub bytes_zero : (k : ℕ) → bytes_of k 0 ≡ replicate k 0
unfolding bytes_of
bytes_zero zero = refl
bytes_zero (suc k) = ap₂ ◌∷◌ (rw (zero-div (256 ^ k))) (bytes_zero k)

-- k bytes hold the number modulo 256 ^ k
pub number_bytes_rest : (k n : ℕ) → number_of (bytes_of k n) ≡ n % 256 ^ k
unfolding bytes_of number_of
number_bytes_rest zero n = omega arith
number_bytes_rest (suc k) n =
    number_cons (n / 256 ^ k % 256) (bytes_of k n)
    ∙ rw (bytes_length, number_bytes_rest k n, pow-succ') (sym (mod-mul n {m = 256} {c = 256 ^ k} (lit< tt) (power k)))

-- reading undoes writing
pub number_bytes : (k n : ℕ) → n < 256 ^ k → number_of (bytes_of k n) ≡ n
number_bytes k n h = number_bytes_rest k n ∙ mod-eq_of_lt h

-- a number that was written in at most k bytes, read again from the first k
pub number_back : (k size n : ℕ) → n < 256 ^ size → size ≤ k → number_of (take k (bytes_of size n)) ≡ n
number_back k size n h le = ap number_of (take_all k (bytes_of size n) (rw (bytes_length size n) le)) ∙ number_bytes size n h

-- what lies above the k lowest bytes does not matter
bytes_low : (k e a m : ℕ) → bytes_of k (a * 256 ^ (e + k) + m) ≡ bytes_of k m
unfolding bytes_of
bytes_low zero e a m = refl
bytes_low (suc k) e a m =
    let up : e + suc k ≡ suc e + k = omega arith in
    let high : a * 256 ^ (suc e + k) ≡ a * 256 ^ e * 256 * 256 ^ k = rw (pow-add, pow-suc) (omega arith) in
    let head : (a * 256 ^ (suc e + k) + m) / 256 ^ k % 256 ≡ m / 256 ^ k % 256 =
    rw (high, mul-add-div_right (power k)) (mul-add-mod_self_right (a * 256 ^ e) 256 (m / 256 ^ k)) in
    rw up (ap₂ ◌∷◌ head (bytes_low k (suc e) a m))

-- writing undoes reading
pub bytes_number : (k : ℕ) (l : List ℕ) → length l ≡ k → Bytes l → bytes_of k (number_of l) ≡ l
unfolding bytes_of
bytes_number zero [] e h = refl
bytes_number zero (b ∷ l) e h = absurd (omega arith)
bytes_number (suc k) [] e h = absurd (omega arith)
bytes_number (suc k) (b ∷ l) e h =
    let long : length l ≡ k = omega arith in
    let below : number_of l < 256 ^ k = rw long at (number_small l (bytes_tail h)) in
    let whole : number_of (b ∷ l) ≡ b * 256 ^ k + number_of l = rw long at (number_cons b l) in
    let head : (b * 256 ^ k + number_of l) / 256 ^ k % 256 ≡ b = rw (digits_div b below) (mod-eq_of_lt (bytes_head h)) in
    let tail : bytes_of k (b * 256 ^ (0 + k) + number_of l) ≡ l = bytes_low k 0 b (number_of l) ∙ bytes_number k l long (bytes_tail h) in
    rw whole (ap₂ ◌∷◌ head (rw zero-add at tail))

-- byte strings of the same length are the same exactly if their numbers are
pub number_same : (k : ℕ) (x y : List ℕ) → length x ≡ k → length y ≡ k → Bytes x → Bytes y → eqb (number_of x) (number_of y) ≡ same_bytes x y
number_same k x y p q a b =
    same_test (eqb (number_of x) (number_of y))
    (λ e. true_same x y (sym (bytes_number k x p a) ∙ ap (bytes_of k) (eqb-true (number_of x) (number_of y) e) ∙ bytes_number k y q b))
    (λ e. false_same x y (λ h. eqb-false (number_of x) (number_of y) e (ap number_of h)))

-- before a turn that reads one of eight bytes the number has seven at most
pub seven_below : (v : List ℕ) (i n : ℕ) → i < 8 → Bytes v → n ≡ number_of (take i v) → n < 256 ^ 7
seven_below v i n h b e = rw e (number_below 7 (take i v) (simp length-take (omega arith)) (bytes_take i v b))
