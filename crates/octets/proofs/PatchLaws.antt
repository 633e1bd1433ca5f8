-- Bytes put in the place of others: what stands before and past them stays, and of two at one place the later counts.
use Prim.Native.Nat.{ℕ, ◌+◌, ◌-◌, ◌≤◌, ◌<◌}
use mathlib.Core.Path.{◌≡◌, refl, sym, ap, ◌∙◌}
use mathlib.Core.List.{List, ◌++◌, append_assoc}
use native.Mathlib.Nat.{add-zero, add_assoc}
use native.Mathlib.Omega.{arith}
use lib.ListN.{length, take, drop, length-append, take-append-drop}
use lib.Seq.{length-take-le, take-append-le, take-append-add, drop-drop, drop-append-le, drop-append-add}
use lib.Dec.{leb}
use borrow.Author.Tests.{leb-true, leb-false}
use Rattle.octets.specs.Put.{put, put_in}
use Rattle.octets.proofs.ChoiceLaws.{pick_all}
use Rattle.octets.proofs.ListLaws.{part_front}
use Rattle.octets.proofs.PutLaws.{put_take, put_drop, put_part, put_in_fits, written_none, written_at, written_all}

-- bytes that fill a buffer are all that it holds
pub put_in_whole : (l vs : List ℕ) → length l ≡ length vs → put_in l 0 vs ≡ vs
put_in_whole l vs h = written_all (written_at (written_none l) vs 0 refl (omega arith) refl) (sym h)

-- bytes put into the first of two lists, which has room for them
pub put_in_first : (b y : List ℕ) (at : ℕ) (vs : List ℕ) → at + length vs ≤ length b → put_in (b ++ y) at vs ≡ put_in b at vs ++ y
unfolding put
put_in_first b y at vs h =
    let e : at ≤ length b = omega arith in
    let room : at + length vs ≤ length (b ++ y) = simp length-append (omega arith) in
    rw (
      put_in_fits (b ++ y) at vs room,
      put_in_fits b at vs h,
      take-append-le at b y e,
      drop-append-le (at + length vs) b y h,
    ) (simp append_assoc)

-- into the second
put_in_second : (x t : List ℕ) (at : ℕ) (vs : List ℕ) → at + length vs ≤ length t → put_in (x ++ t) (length x + at) vs ≡ x ++ put_in t at vs
unfolding put
put_in_second x t at vs h =
    let room : length x + at + length vs ≤ length (x ++ t) = simp length-append (omega arith) in
    rw (
      put_in_fits (x ++ t) (length x + at) vs room,
      put_in_fits t at vs h,
      take-append-add x t at,
      add_assoc,
      drop-append-add x t (at + length vs),
    ) (simp append_assoc)

-- into the middle one of three
pub put_in_inner : (x b y : List ℕ) (at : ℕ) (vs : List ℕ) → at + length vs ≤ length b
    → put_in (x ++ (b ++ y)) (length x + at) vs ≡ x ++ (put_in b at vs ++ y)
put_in_inner x b y at vs h =
    put_in_second x (b ++ y) at vs (simp length-append (omega arith)) ∙ ap (λ (l : List ℕ). x ++ l) (put_in_first b y at vs h)

-- bytes in the place of as many that stand between a and c
pub put_in_middle : (a b c d : List ℕ) (at : ℕ) → length a ≡ at → length b ≡ length d → put_in (a ++ (b ++ c)) at d ≡ a ++ (d ++ c)
put_in_middle a b c d at e f =
    ap (λ (n : ℕ). put_in (a ++ (b ++ c)) n d) (sym e ∙ sym (add-zero (length a)))
    ∙ put_in_inner a b c 0 d (omega arith)
    ∙ ap (λ (l : List ℕ). a ++ (l ++ c)) (put_in_whole b d f)

-- a place within the first n bytes
pub put_in_front : (l : List ℕ) (at : ℕ) (vs : List ℕ) (n : ℕ) → at + length vs ≤ n → n ≤ length l → put_in l at vs ≡ put_in (take n l) at vs ++ drop n l
put_in_front l at vs n h k =
    ap (λ (x : List ℕ). put_in x at vs) (sym (take-append-drop n l)) ∙ put_in_first (take n l) (drop n l) at vs (rw (length-take-le n l k) h)

-- with room and without
by_room : (P : List ℕ → Type 0) (l : List ℕ) (at : ℕ) (vs : List ℕ) → (at + length vs ≤ length l → P (put l at vs)) → (length l < at + length vs → P l) → P (put_in l at vs)
unfolding put_in
by_room P l at vs f g =
    pick_all P (leb (at + length vs) (length l)) (put l at vs) l
    (λ e. f (leb-true (at + length vs) (length l) e)) (λ e. g (leb-false (at + length vs) (length l) e))

-- of two at one place the later counts
pub put_in_again : (l : List ℕ) (at : ℕ) (a b : List ℕ) → length a ≡ length b → put_in (put_in l at a) at b ≡ put_in l at b
unfolding put
put_in_again l at a b e =
    by_room (λ (x : List ℕ). put_in x at b ≡ put_in l at b) l at a
    (λ h.
    let room : at + length b ≤ length l = omega arith in
    ap (λ (x : List ℕ). put_in x at b) (append_assoc (take at l) a (drop (at + length a) l))
    ∙ put_in_middle (take at l) a (drop (at + length a) l) b at (length-take-le at l (omega arith)) e
    ∙ sym (append_assoc (take at l) b (drop (at + length a) l))
    ∙ ap (λ (n : ℕ). (take at l ++ b) ++ drop (at + n) l) e
    ∙ sym (put_in_fits l at b room))
    (λ h. refl)

-- what stands before stays
pub put_in_take : (l : List ℕ) (at : ℕ) (vs : List ℕ) (n : ℕ) → n ≤ at → take n (put_in l at vs) ≡ take n l
put_in_take l at vs n h =
    by_room (λ (x : List ℕ). take n x ≡ take n l) l at vs (λ k. put_take l at vs n h (omega arith)) (λ k. refl)

-- and what stands past it
pub put_in_drop : (l : List ℕ) (at : ℕ) (vs : List ℕ) → drop (at + length vs) (put_in l at vs) ≡ drop (at + length vs) l
put_in_drop l at vs =
    by_room (λ (x : List ℕ). drop (at + length vs) x ≡ drop (at + length vs) l) l at vs (λ k. put_drop l at vs (omega arith)) (λ k. refl)

-- what was put, read again
pub put_in_part : (l : List ℕ) (at : ℕ) (vs : List ℕ) → at + length vs ≤ length l → take (length vs) (drop at (put_in l at vs)) ≡ vs
put_in_part l at vs h = rw (put_in_fits l at vs h) (put_part l at vs (omega arith))

module _ (l : List ℕ) (at : ℕ) (vs : List ℕ) where
  -- a part before what was put
  pub part_before : (k o : ℕ) → o + k ≤ at → take k (drop o (put_in l at vs)) ≡ take k (drop o l)
  part_before k o h =
      let e : k + o ≤ at = omega arith in
      sym (part_front o k (put_in l at vs)) ∙ ap (drop o) (put_in_take l at vs (k + o) e) ∙ part_front o k l

  -- and past it
  pub part_past : (k o : ℕ) → at + length vs ≤ o → take k (drop o (put_in l at vs)) ≡ take k (drop o l)
  part_past k o h =
      let m = o - (at + length vs) in
      let e : at + length vs + m ≡ o = omega arith in
      let past : (x : List ℕ) → drop o x ≡ drop m (drop (at + length vs) x) =
      λ x. ap (λ (n : ℕ). drop n x) (sym e) ∙ sym (drop-drop m (at + length vs) x) in
      ap (take k) (past (put_in l at vs) ∙ ap (drop m) (put_in_drop l at vs) ∙ sym (past l))
