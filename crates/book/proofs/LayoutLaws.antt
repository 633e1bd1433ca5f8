-- Entries one after the other: the first and the rest, and the first few and the next.
use Prim.Native.Nat.{ℕ, zero, suc, ◌+◌, ◌-◌, ◌<◌, ◌≤◌}
use native.Mathlib.Nat.{zero-add, suc-add}
use native.Mathlib.Omega.{arith}
use mathlib.Core.Path.{◌≡◌, ap, ◌∙◌}
use mathlib.Core.Bool.{Bool}
use mathlib.Core.List.{List, [], ◌∷◌, ◌++◌}
use Rattle.book.specs.declared.Entry.{Entry}
use Rattle.book.specs.Entries.{entry_at, end_of, entries_from, end_from}

module _ (counted : Bool) (book : List ℕ) where
  -- no entry is left
  pub none_left : (at n : ℕ) → n ≤ 0 → entries_from counted book at n ≡ []
  unfolding entries_from
  none_left at n h = let z : n ≡ 0 = omega arith in rw z

  -- and they end where they start
  pub end_here : (at n : ℕ) → n ≤ 0 → end_from counted book at n ≡ at
  unfolding end_from
  end_here at n h = let z : n ≡ 0 = omega arith in rw z

  -- one is left: the first and the rest
  pub one_left : (at n : ℕ) → 0 < n → entries_from counted book at n ≡ entry_at counted book at ∷ entries_from counted book (end_of (entry_at counted book at)) (n - 1)
  unfolding entries_from
  one_left at n h = let z : n ≡ suc (n - 1) = omega arith in ap (entries_from counted book at) z

  -- and they end where the rest ends
  pub end_later : (at n : ℕ) → 0 < n → end_from counted book at n ≡ end_from counted book (end_of (entry_at counted book at)) (n - 1)
  unfolding end_from
  end_later at n h = let z : n ≡ suc (n - 1) = omega arith in ap (end_from counted book at) z

  -- the first few, and those that come after them
  pub entries_add : (at i j : ℕ) → entries_from counted book at (i + j) ≡ entries_from counted book at i ++ entries_from counted book (end_from counted book at i) j
  unfolding entries_from end_from
  entries_add at zero j = rw zero-add
  entries_add at (suc i) j = rw suc-add (ap (λ (es : List Entry). entry_at counted book at ∷ es) (entries_add (end_of (entry_at counted book at)) i j))

  -- and they end where those end
  pub end_add : (at i j : ℕ) → end_from counted book at (i + j) ≡ end_from counted book (end_from counted book at i) j
  unfolding end_from
  end_add at zero j = rw zero-add
  end_add at (suc i) j = rw suc-add (end_add (end_of (entry_at counted book at)) i j)

  -- one more
  pub end_more : (at i : ℕ) → end_from counted book at (i + 1) ≡ end_of (entry_at counted book (end_from counted book at i))
  unfolding end_from
  end_more at i = end_add at i 1

  pub entries_more : (at i : ℕ) → entries_from counted book at (i + 1) ≡ entries_from counted book at i ++ (entry_at counted book (end_from counted book at i) ∷ [])
  unfolding entries_from
  entries_more at i = entries_add at i 1

  -- the i-th among n, with those before and those after it
  pub entries_around : (at i n : ℕ) → i < n
      → entries_from counted book at n ≡ entries_from counted book at i ++ (entry_at counted book (end_from counted book at i) ∷ entries_from counted book (end_from counted book at (i + 1)) (n - (i + 1)))
  entries_around at i n h =
      let z : n ≡ i + (n - i) = omega arith in
      let y : n - i - 1 ≡ n - (i + 1) = omega arith in
      ap (entries_from counted book at) z ∙ entries_add at i (n - i)
      ∙ ap (λ (es : List Entry). entries_from counted book at i ++ es)
      (one_left (end_from counted book at i) (n - i) (omega arith) ∙ rw (end_more at i, y))
