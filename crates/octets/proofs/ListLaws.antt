-- Lists, beyond what the logic's library has.
use Prim.Native.Nat.{ℕ, zero, suc, ◌+◌, ◌-◌, ◌≤◌, ◌<◌}
use native.Mathlib.Nat.{add-zero}
use native.Mathlib.Numerals.{add-one}
use native.Mathlib.Omega.{arith}
use mathlib.Core.Path.{◌≡◌, refl, sym, ap, ◌∙◌}
use mathlib.Core.Bool.{Bool, true, false}
use mathlib.Core.List.{List, [], ◌∷◌, ◌++◌}
use lib.ListN.{length, get_or, take, drop, length-take, length-drop, take-append-drop, drop_of_length-le}
use lib.Seq.{take-nil, take_all, take-take, take-append-le, drop-drop, drop-append-le, drop-cons, get_or-take, get_or-drop}
use Rattle.octets.specs.Choice.{both, every}

-- the tail `&s[n..]` of a slice
pub tail_of_law : (l : List ℕ) (n : ℕ) → take (length l - n) (drop n l) ≡ drop n l
tail_of_law l n = take_all (length l - n) (drop n l) (simp length-drop (omega arith))

-- a part that lies within the first of two lists
pub part_first : (a k : ℕ) (p q : List ℕ) → a + k ≤ length p → take k (drop a (p ++ q)) ≡ take k (drop a p)
part_first a k p q h =
    rw (drop-append-le a p q (omega arith)) (take-append-le k (drop a p) q (simp length-drop (omega arith)))

-- a part is the same whether the bytes past it or those before it are cut off first
pub part_front : (o k : ℕ) (l : List ℕ) → drop o (take (k + o) l) ≡ take k (drop o l)
part_front zero k l = ap (λ (n : ℕ). take n l) (add-zero k)
part_front (suc o) k [] =
    let e : k + suc o ≡ suc (k + o) = omega arith in
    rw e (sym (take-nil k))
part_front (suc o) k (x ∷ l) =
    let e : k + suc o ≡ suc (k + o) = omega arith in
    rw e (part_front o k l)

-- a part of the first n bytes
pub part_within : (n o k : ℕ) (l : List ℕ) → o + k ≤ n → take k (drop o (take n l)) ≡ take k (drop o l)
part_within n o k l h =
    let e : k + o ≤ n = omega arith in
    sym (part_front o k (take n l)) ∙ ap (drop o) (take-take (k + o) n l e) ∙ part_front o k l

-- a part and what follows it
pub part_join : (k at : ℕ) (l : List ℕ) → take k (drop at l) ++ drop (at + k) l ≡ drop at l
part_join k at l = rw (← drop-drop k at l) (take-append-drop k (drop at l))

-- a byte of a part
pub part_byte : (k at o : ℕ) (l : List ℕ) → o < k → get_or (take k (drop at l)) o 0 ≡ get_or l (at + o) 0
part_byte k at o l h = get_or-take k (drop at l) o 0 h ∙ get_or-drop at l o 0

-- as many from the front as were taken from the front
pub take_count : (n : ℕ) (l : List ℕ) → take (length (take n l)) l ≡ take n l
take_count zero l = refl
take_count (suc n) [] = refl
take_count (suc n) (x ∷ xs) = ap (λ (t : List ℕ). x ∷ t) (take_count n xs)

-- a part of at most n bytes
pub at_most : (n : ℕ) (l p : List ℕ) → p ≡ take n l → length p ≤ n
at_most n l p e = rw e (simp length-take (omega arith))

-- a loop that tests each element of a list: what is left to test
module _ (test : ℕ → Bool) (l : List ℕ) (i : ℕ) where
  every_step : i < length l → every test (drop i l) ≡ both (test (get_or l i 0)) (every test (drop (i + 1) l))
  unfolding every
  every_step h = rw (drop-cons l i 0 h, add-one)

  pub every_next : i < length l → test (get_or l i 0) ≡ true → every test (drop i l) ≡ every test (drop (i + 1) l)
  every_next h e = every_step h ∙ rw e

  pub every_fails : i < length l → test (get_or l i 0) ≡ false → every test (drop i l) ≡ false
  every_fails h e = every_step h ∙ rw e

  pub every_done : length l ≤ i → every test (drop i l) ≡ true
  unfolding every
  every_done h = rw (drop_of_length-le l {i = i} h)
