-- Bytes put into a buffer: its length stays, and so does what stands before and past them; one put after another is one put.
use Prim.Native.Nat.{ℕ, suc, ◌+◌, ◌≤◌, ◌<◌}
use mathlib.Core.Path.{◌≡◌, refl, sym, ap, ap₂, ◌∙◌}
use mathlib.Core.List.{List, [], ◌∷◌, ◌++◌, append_assoc, append-nil}
use native.Mathlib.Omega.{arith}
use native.Mathlib.Nat.{add-zero, add_assoc, zero-add}
use native.Mathlib.Numerals.{add-one}
use lib.ListN.{length, get_or, take, drop, set, length-append, length-drop, take-append-drop, drop_of_length-le}
use lib.Seq.{take-suc, take-take, drop-drop, set_split, set_at, length-take-le, take_at, take-append-le, drop_at, drop-append-add}
use lib.Dec.{leb}
use borrow.Author.Tests.{le-leb, lt-leb, leb-true}
use Rattle.octets.specs.Put.{put, put_in}
use Rattle.octets.proofs.ChoiceLaws.{pick_all, pick_same}

-- the length stays; nothing put; put at the start; one byte stored
pub put_length : (l : List ℕ) (at : ℕ) (vs : List ℕ) → at + length vs ≤ length l → length (put l at vs) ≡ length l
unfolding put
put_length l at vs h = simp (length-append, length-drop, length-take-le at l (omega arith)) (omega arith)

pub put_none : (l : List ℕ) (at : ℕ) → put l at [] ≡ l
unfolding put
put_none l at = rw (append-nil, add-zero) (take-append-drop at l)

pub put_start : (l vs : List ℕ) → put l 0 vs ≡ vs ++ drop (length vs) l
unfolding put
put_start l vs = rw zero-add

pub put_one : (l : List ℕ) (at b : ℕ) → at < length l → set l at b ≡ put l at (b ∷ [])
unfolding put
put_one l at b h = set_split l at b h ∙ rw (append_assoc, add-one)

-- what stands before it and itself
front : (l : List ℕ) (at : ℕ) (vs : List ℕ) → at ≤ length l → length (take at l ++ vs) ≡ at + length vs
front l at vs h = simp (length-append, length-take-le at l h)

-- what stands before it stays, and what stands past it
pub put_take : (l : List ℕ) (at : ℕ) (vs : List ℕ) (n : ℕ) → n ≤ at → at ≤ length l → take n (put l at vs) ≡ take n l
unfolding put
put_take l at vs n p q =
    let long : length (take at l) ≡ at = length-take-le at l q in
    rw append_assoc (take-append-le n (take at l) (vs ++ drop (at + length vs) l) (omega arith) ∙ take-take n at l p)

pub put_drop : (l : List ℕ) (at : ℕ) (vs : List ℕ) → at ≤ length l → drop (at + length vs) (put l at vs) ≡ drop (at + length vs) l
unfolding put
put_drop l at vs h = drop_at (take at l ++ vs) (drop (at + length vs) l) (at + length vs) (front l at vs h)

-- from the offset on: what was put and what stands past it
pub put_rest : (l : List ℕ) (at : ℕ) (vs : List ℕ) → at ≤ length l → drop at (put l at vs) ≡ vs ++ drop (at + length vs) l
unfolding put
put_rest l at vs h = rw (append_assoc, drop_at (take at l) (vs ++ drop (at + length vs) l) at (length-take-le at l h))

-- what was put, read again
pub put_part : (l : List ℕ) (at : ℕ) (vs : List ℕ) → at ≤ length l → take (length vs) (drop at (put l at vs)) ≡ vs
put_part l at vs h = rw (put_rest l at vs h) (take_at vs (drop (at + length vs) l) (length vs) refl)

-- one put after another is one put
pub put_put : (l : List ℕ) (at : ℕ) (a b : List ℕ) → at + length a + length b ≤ length l
    → put (put l at a) (at + length a) b ≡ put l at (a ++ b)
unfolding put
put_put l at a b h =
    let k : length (take at l ++ a) ≡ at + length a = front l at a (omega arith) in
    let head : take (at + length a) ((take at l ++ a) ++ drop (at + length a) l) ≡ take at l ++ a =
    take_at (take at l ++ a) (drop (at + length a) l) (at + length a) k in
    let tail : drop (at + length a + length b) ((take at l ++ a) ++ drop (at + length a) l) ≡ drop (at + length a + length b) l =
    ap (λ (j : ℕ). drop (j + length b) ((take at l ++ a) ++ drop (at + length a) l)) (sym k)
    ∙ drop-append-add (take at l ++ a) (drop (at + length a) l) (length b)
    ∙ drop-drop (length b) (at + length a) l in
    rw (head, tail) (simp (length-append, append_assoc, add_assoc))

-- one byte before what was put
pub put_before : (l : List ℕ) (at b : ℕ) (vs : List ℕ) → at + suc (length vs) ≤ length l
    → set (put l (suc at) vs) at b ≡ put l at (b ∷ vs)
unfolding put
put_before l at b vs h =
    let within : at < length l = omega arith in
    let e : suc at + length vs ≡ at + suc (length vs) = omega arith in
    let long : length (take at l) ≡ at = length-take-le at l (omega arith) in
    rw (take-suc l at 0, e)
    (simp append_assoc (set_at (take at l) (get_or l at 0) (vs ++ drop (at + suc (length vs)) l) b at long))

-- one byte after what was put
pub put_after : (l : List ℕ) (at : ℕ) (vs : List ℕ) (b : ℕ) → at + length vs < length l
    → set (put l at vs) (at + length vs) b ≡ put l at (vs ++ (b ∷ []))
put_after l at vs b h =
    let long : length (put l at vs) ≡ length l = put_length l at vs (omega arith) in
    put_one (put l at vs) (at + length vs) b (omega arith) ∙ put_put l at vs (b ∷ []) (omega arith)

-- two bytes after what was put, and two bytes alone
pub put_two : (l : List ℕ) (at : ℕ) (vs : List ℕ) (a b : ℕ) → at + length vs + 1 < length l
    → set (set (put l at vs) (at + length vs) a) (at + length vs + 1) b ≡ put l at (vs ++ (a ∷ b ∷ []))
put_two l at vs a b h =
    let long : at + length vs + 1 ≡ at + length (vs ++ (a ∷ [])) = rw length-append (omega arith) in
    rw (put_after l at vs a (omega arith), long) (put_after l at (vs ++ (a ∷ [])) b (omega arith) ∙ ap (put l at) (append_assoc vs (a ∷ []) (b ∷ [])))

pub set_two : (l : List ℕ) (at a b : ℕ) → at + 2 ≤ length l → set (set l at a) (at + 1) b ≡ put l at (a ∷ b ∷ [])
set_two l at a b h = rw (put_none l at, add-zero at) at (put_two l at [] a b (omega arith))

-- the next byte of a byte string that is put byte by byte
pub put_next : (l : List ℕ) (at : ℕ) (vs : List ℕ) (i : ℕ) → i < length vs → at + i < length l
    → set (put l at (take i vs)) (at + i) (get_or vs i 0) ≡ put l at (take (i + 1) vs)
put_next l at vs i p q =
    let long : length (take i vs) ≡ i = length-take-le i vs (omega arith) in
    let next : set (put l at (take i vs)) (at + length (take i vs)) (get_or vs i 0) ≡ put l at (take i vs ++ (get_or vs i 0 ∷ [])) =
    put_after l at (take i vs) (get_or vs i 0) (omega arith) in
    rw (add-one, take-suc vs i 0) (rw long at next)

-- with room, without, nothing put, and the length
pub put_in_fits : (l : List ℕ) (at : ℕ) (vs : List ℕ) → at + length vs ≤ length l → put_in l at vs ≡ put l at vs
unfolding put_in
put_in_fits l at vs h = rw (le-leb (at + length vs) (length l) h)

pub put_in_none : (l : List ℕ) (at : ℕ) (vs : List ℕ) → length l < at + length vs → put_in l at vs ≡ l
unfolding put_in
put_in_none l at vs h = rw (lt-leb (at + length vs) (length l) h)

pub put_in_nothing : (l : List ℕ) (at : ℕ) → put_in l at [] ≡ l
unfolding put_in
put_in_nothing l at = rw put_none (pick_same (leb (at + 0) (length l)) l)

pub put_in_length : (l : List ℕ) (at : ℕ) (vs : List ℕ) → length (put_in l at vs) ≡ length l
unfolding put_in
put_in_length l at vs =
    pick_all (λ (out : List ℕ). length out ≡ length l) (leb (at + length vs) (length l)) (put l at vs) l
    (λ e. put_length l at vs (leb-true (at + length vs) (length l) e)) (λ _. refl)

-- A writer's buffer so far: bs from the start, and past them what stood there.
pub record Written (l₀ bs out : List ℕ) : Type 0 where
  pub is : out ≡ bs ++ drop (length bs) l₀
  pub room : length bs ≤ length l₀

-- nothing yet
pub written_none : (l : List ℕ) → Written l [] l
written_none l = record { is = refl; room = omega arith }

module _ {l₀ bs out : List ℕ} (w : Written l₀ bs out) where
  -- the length stays; it is one put at the start
  pub written_length : length out ≡ length l₀
  written_length = ap length w.is ∙ simp (length-append, length-drop) (omega (arith, w.room))

  written_put : out ≡ put l₀ 0 bs
  written_put = w.is ∙ sym (put_start l₀ bs)

  -- one string more
  pub written_more : (vs : List ℕ) {out' : List ℕ} → length bs + length vs ≤ length l₀ → out' ≡ put_in out (length bs) vs → Written l₀ (bs ++ vs) out'
  written_more vs {out'} h e =
      let long = written_length in
      record {
        is = e
            ∙ put_in_fits out (length bs) vs (omega arith)
            ∙ ap (λ (x : List ℕ). put x (length bs) vs) written_put
            ∙ ap (λ (n : ℕ). put (put l₀ 0 bs) n vs) (sym (zero-add (length bs)))
            ∙ put_put l₀ 0 bs vs (omega arith)
            ∙ put_start l₀ (bs ++ vs);
        room = rw length-append h;
      }

  -- the same, at an offset that is as far as was written
  pub written_at : (vs : List ℕ) {out' : List ℕ} (at : ℕ) → length bs ≡ at → at + length vs ≤ length l₀ → out' ≡ put_in out at vs → Written l₀ (bs ++ vs) out'
  written_at vs {out'} at e h q = written_more vs (rw e h) (rw e q)

  -- the same for one byte stored
  pub written_one : (b : ℕ) {out' : List ℕ} (at : ℕ) → length bs ≡ at → at < length l₀ → out' ≡ set out at b → Written l₀ (bs ++ (b ∷ [])) out'
  written_one b {out'} at e h q =
      let long = written_length in
      written_at (b ∷ []) at e (omega arith)
      (q ∙ put_one out at b (omega arith) ∙ sym (put_in_fits out at (b ∷ []) (omega arith)))

  -- what was written, and what stands past it
  pub written_take : take (length bs) out ≡ bs
  written_take = ap (take (length bs)) w.is ∙ take_at bs (drop (length bs) l₀) (length bs) refl

  pub written_drop : drop (length bs) out ≡ drop (length bs) l₀
  written_drop = ap (drop (length bs)) w.is ∙ drop_at bs (drop (length bs) l₀) (length bs) refl

  -- a buffer that was written to its end
  pub written_all : length bs ≡ length l₀ → out ≡ bs
  written_all e = w.is ∙ rw (drop_of_length-le l₀ {i = length bs} (omega arith), append-nil)

-- a byte string put at the start, and then changed where it stands
pub written_changed : (change : List ℕ → List ℕ) (l₀ bs : List ℕ) {middle out : List ℕ} → length bs ≤ length l₀ → length (change bs) ≡ length bs
    → middle ≡ put_in l₀ 0 bs → out ≡ change (take (length bs) middle) ++ drop (length bs) middle → Written l₀ (change bs) out
written_changed change l₀ bs {middle} {out} room same p q =
    let w : Written l₀ bs middle = written_more (written_none l₀) bs (omega arith) p in
    record {
      is = q ∙ ap₂ (λ (x y : List ℕ). change x ++ y) (written_take w) (written_drop w ∙ ap (λ (n : ℕ). drop n l₀) (sym same));
      room = rw same room;
    }
