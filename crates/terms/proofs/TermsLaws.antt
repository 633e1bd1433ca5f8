-- Lists of 16-bit numbers: read number by number, and what stands in those that are written.
use Prim.Native.Nat.{ℕ, suc, ◌+◌, ◌-◌, ◌*◌, ◌/◌, ◌<◌, ◌≤◌}
use native.Mathlib.Omega.{arith}
use mathlib.Core.Path.{◌≡◌, refl, sym, ap, ◌∙◌}
use mathlib.Core.Bool.{Bool, true, false}
use mathlib.Core.Logic.{◌⊎◌, inl, inr}
use mathlib.Core.List.{List, [], ◌++◌, append-nil}
use lib.ListN.{length, take, drop, length-append}
use lib.Seq.{take_at, drop_at, drop-drop, take_all}
use lib.Dec.{eqb}
use borrow.Author.Tests.{eq-eqb, ne_eqb, eqb-true}
use Rattle.octets.specs.Choice.{either}
use Rattle.octets.specs.Numbers.{number_of, bytes_of}
use Rattle.octets.proofs.ChoiceLaws.{either_left, either_right, both_true, both_left}
use Rattle.octets.proofs.NumberLaws.{number_bytes, bytes_length}
use Rattle.terms.specs.Terms.{takes_type, lists_by, lists, is_one_type}

-- the numbers of a list from the i-th on, of n
abbrev pub lists_from : ℕ → ℕ → List ℕ → ℕ → Bool
lists_from x n l i = lists_by (n - i) x (drop (2 * i) l)

-- at the i-th number: this one, a later one, or the end
step : (x n : ℕ) (l : List ℕ) (i : ℕ) → i < n
    → lists_from x n l i ≡ either (eqb (number_of (take 2 (drop (2 * i) l))) x) (lists_from x n l (i + 1))
unfolding lists_by
step x n l i h =
    let e : n - i ≡ suc (n - (i + 1)) = omega arith in
    let d : 2 * (i + 1) ≡ 2 * i + 2 = omega arith in
    rw (e, d, ← drop-drop 2 (2 * i) l)

pub lists_here : (x n : ℕ) (l : List ℕ) (i : ℕ) → i < n → number_of (take 2 (drop (2 * i) l)) ≡ x → lists_from x n l i ≡ true
lists_here x n l i h e = step x n l i h ∙ simp (eq-eqb _ _ e)

pub lists_later : (x n : ℕ) (l : List ℕ) (i : ℕ) → i < n → (number_of (take 2 (drop (2 * i) l)) ≡ x → ⊥)
    → lists_from x n l i ≡ lists_from x n l (i + 1)
lists_later x n l i h e = step x n l i h ∙ simp (ne_eqb _ _ e)

pub lists_end : (x n : ℕ) (l : List ℕ) (i : ℕ) → n ≤ i → lists_from x n l i ≡ false
unfolding lists_by
lists_end x n l i h = let e : n - i ≡ 0 = omega arith in rw e

-- all of a list
pub lists_start : (x : ℕ) (l : List ℕ) → lists x l ≡ lists_from x (length l / 2) l 0
unfolding lists
lists_start x l = let e : length l / 2 - 0 ≡ length l / 2 = omega arith in rw e

-- a list that begins with a number that is written out
pub listed_first : (x a : ℕ) (l : List ℕ) → a < 65536 → lists x (bytes_of 2 a ++ l) ≡ either (eqb a x) (lists x l)
unfolding lists lists_by
listed_first x a l h =
    let two = bytes_length 2 a in
    let n : length (bytes_of 2 a ++ l) / 2 ≡ suc (length l / 2) = simp length-append (omega arith) in
    rw (n, take_at (bytes_of 2 a) l 2 two, drop_at (bytes_of 2 a) l 2 two, number_bytes 2 a h)

-- a number stands in a list of itself alone
pub listed_one : (x : ℕ) → x < 65536 → lists x (bytes_of 2 x) ≡ true
listed_one x h =
    ap (lists x) (sym (append-nil (bytes_of 2 x)))
    ∙ listed_first x x [] h
    ∙ either_left (eqb x x) (lists x []) (eq-eqb x x refl)

-- one of two
pub listed_two : (x a b : ℕ) → a < 65536 → b < 65536 → (x ≡ a) ⊎ (x ≡ b) → lists x (bytes_of 2 a ++ bytes_of 2 b) ≡ true
listed_two x a b p q (inl e) = listed_first x a (bytes_of 2 b) p ∙ either_left (eqb a x) (lists x (bytes_of 2 b)) (eq-eqb a x (sym e))
listed_two x a b p q (inr e) =
    listed_first x a (bytes_of 2 b) p
    ∙ either_right (eqb a x) (lists x (bytes_of 2 b)) (ap (λ (y : ℕ). lists y (bytes_of 2 b)) e ∙ listed_one b q)

-- a list of one number, and one of another length
pub one_number : (l : List ℕ) → length l ≡ 2 → is_one_type l ≡ takes_type (number_of (take 2 (drop 0 l)))
unfolding is_one_type
one_number l e = rw (eq-eqb (length l) 2 e, take_all 2 l (omega arith))

pub not_one : (l : List ℕ) → (length l ≡ 2 → ⊥) → is_one_type l ≡ false
unfolding is_one_type
not_one l h = rw (ne_eqb (length l) 2 h)

-- a list of one type that we take has two bytes
pub one_length : (l : List ℕ) → is_one_type l ≡ true → length l ≡ 2
unfolding is_one_type
one_length l e = eqb-true (length l) 2 (both_left (eqb (length l) 2) (takes_type (number_of l)) e)

-- a type that we take, alone in its list
pub one_type : (t : ℕ) → takes_type t ≡ true → t < 65536 → is_one_type (bytes_of 2 t) ≡ true
unfolding is_one_type
one_type t e h =
    both_true (eqb (length (bytes_of 2 t)) 2) (takes_type (number_of (bytes_of 2 t)))
    (eq-eqb (length (bytes_of 2 t)) 2 (bytes_length 2 t)) (rw (number_bytes 2 t h) e)
