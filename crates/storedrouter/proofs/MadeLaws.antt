-- An array that a closure made element by element, where each call answers by the index alone.
use Rattle.std.proofs.Common.{◌≡◌, ℕ, zero, suc, ◌+◌, ◌<◌, List, length, get_or, sym, subst, arith, ◌∙◌, add-zero, zero-add}
use Rattle.std.proofs.lemmas.List.{ext_get_or}
use Rattle.std.specs.Array.{IsFromFnResultFrom}
use Rattle.std.specs.Fn.{Called, Mut}

module _ {F B : Type 0} (g : Mut F (ℕ × Unit {0}) B) (f : F) (value : ℕ → B)
    (answers : (x : ℕ) (y : B) (q : F) → Called g f (x, tt) y q → (q ≡ f) × (y ≡ value x)) where
  -- element i + k of the n that were made from i on
  made_at : (ys : List B) (d : B) (i n k : ℕ) → IsFromFnResultFrom g f ys i n → k < n → get_or ys (i + k) d ≡ value (i + k)
  made_at ys d i zero k made below = absurd (omega arith)
  made_at ys d i (suc n) zero made below =
      rw add-zero (made.2.1 d ∙ (answers i made.1 made.0 made.3).1)
  made_at ys d i (suc n) (suc k) made below =
      let next : i + suc k ≡ i + 1 + k = omega arith in
      let rest = subst (λ (q : F). IsFromFnResultFrom g q ys (i + 1) n) (answers i made.1 made.0 made.3).0 made.4 in
      rw next (made_at ys d (i + 1) n k rest (omega arith))

  -- all n of them
  pub made_all : {n : ℕ} {ys all : List B} (d : B) → length ys ≡ n → length all ≡ n → IsFromFnResultFrom g f ys 0 n
      → ((i : ℕ) → i < n → get_or all i d ≡ value i) → ys ≡ all
  made_all {n} {ys} {all} d long many made each = ext_get_or d ys all (long ∙ sym many) λ i below.
      let few : i < n = rw (← long) below in
      let one : get_or ys i d ≡ value i = rw zero-add at (made_at ys d 0 n i made few) in
      one ∙ sym (each i few)
