-- Objects as a message is written of them: how many bytes they take, and putting them one after the other.
use Rattle.std.specs.Prelude.{Option, Some, None, MatchOption, IsTrue}
use Prim.Native.Nat.{ℕ, ◌+◌, ◌≤◌, ◌<◌}
use mathlib.Core.Path.{◌≡◌, refl, sym, ap, ◌∙◌}
use mathlib.Core.Bool.{Bool, true, false}
use mathlib.Core.List.{List, [], ◌∷◌, ◌++◌, append_assoc, append-nil}
use native.Mathlib.Omega.{arith}
use native.Mathlib.Numerals.{add-one}
use lib.Dec.{leb, ltb}
use lib.ListN.{length, get_or, take, drop, length-append, take-append-drop, drop_of_length-le}
use lib.Seq.{take-suc, take-add, drop-drop, drop-cons}
use Rattle.octets.specs.Choice.{pick}
use Rattle.octets.specs.Put.{put, put_in}
use Rattle.octets.proofs.ChoiceLaws.{never}
use Rattle.octets.proofs.PutLaws.{put_put, put_none, put_length, put_in_fits}
use Rattle.message.specs.declared.writing.Object.{Object}
use Rattle.message.specs.Laid.{laid, laid_all, Lays}
use Rattle.message.specs.Writing.{object_bytes, is_below}

-- how many bytes an object takes
pub size_law : (t : ℕ) (v : List ℕ) → length (object_bytes t v) ≡ pick (leb (length v) 253) (2 + length v) 0
unfolding object_bytes
size_law t v = go (leb (length v) 253)
  where
    go : (b : Bool) → length (pick b (t ∷ (2 + length v) ∷ v) []) ≡ pick b (2 + length v) 0
    go true = omega arith
    go false = refl

-- one after the other
pub laid_append : (os os' : List Object) → laid_all (os ++ os') ≡ laid_all os ++ laid_all os'
unfolding laid_all
laid_append [] os' = refl
laid_append (o ∷ os) os' = rw (laid_append os os') (sym (append_assoc (laid o) (laid_all os) (laid_all os')))

-- they are part of all
laid_within : (os : List Object) (i : ℕ) → length (laid_all (take i os)) ≤ length (laid_all os)
laid_within os i =
    let parts : length (laid_all (take i os)) + length (laid_all (drop i os)) ≡ length (laid_all os) =
    sym (length-append (laid_all (take i os)) (laid_all (drop i os)))
    ∙ ap length (sym (laid_append (take i os) (drop i os)))
    ∙ ap (λ (l : List Object). length (laid_all l)) (take-append-drop i os) in
    omega (arith, parts)

-- the first i of them, and one more, of n bytes
module _ (os : List Object) (i : ℕ) (d : Object) {n : ℕ} (h : i < length os) (size : n ≡ length (laid (get_or os i d))) where
  laid_next : laid_all (take (i + 1) os) ≡ laid_all (take i os) ++ laid (get_or os i d)
  unfolding laid_all
  laid_next = rw (add-one, take-suc os i d) (laid_append (take i os) (get_or os i d ∷ []) ∙ rw append-nil)

  pub laid_longer : length (laid_all (take (i + 1) os)) ≡ length (laid_all (take i os)) + n
  laid_longer = ap length laid_next ∙ length-append (laid_all (take i os)) (laid (get_or os i d)) ∙ rw size

  pub laid_more : length (laid_all (take i os)) + n ≤ length (laid_all os)
  laid_more = omega (arith, laid_longer, laid_within os (i + 1))

  -- put
  pub laid_put : (l₀ : List ℕ) (header : ℕ) {out out' : List ℕ} {at : ℕ} → out ≡ put l₀ header (laid_all (take i os))
      → at ≡ header + length (laid_all (take i os)) → header + length (laid_all os) ≤ length l₀ → out' ≡ put_in out at (laid (get_or os i d))
      → out' ≡ put l₀ header (laid_all (take (i + 1) os))
  laid_put l₀ header {out} {out'} {at} e q room p =
      let more = laid_more in
      let long = ap length e ∙ put_length l₀ header (laid_all (take i os)) (omega arith) in
      p
      ∙ put_in_fits out at (laid (get_or os i d)) (omega arith)
      ∙ rw (e, q, laid_next) (put_put l₀ header (laid_all (take i os)) (laid (get_or os i d)) (omega arith))

-- from a place on: n of them and those after them
module _ (os : List Object) (i n : ℕ) where
  laid_rest : laid_all (drop i os) ≡ laid_all (take n (drop i os)) ++ laid_all (drop (i + n) os)
  laid_rest =
      ap laid_all (sym (take-append-drop n (drop i os)))
      ∙ laid_append (take n (drop i os)) (drop n (drop i os))
      ∙ ap (λ (l : List Object). laid_all (take n (drop i os)) ++ laid_all l) (drop-drop n i os)

  laid_join : (m : ℕ) → laid_all (take (n + m) (drop i os)) ≡ laid_all (take n (drop i os)) ++ laid_all (take m (drop (i + n) os))
  laid_join m =
      ap laid_all (take-add n m (drop i os))
      ∙ laid_append (take n (drop i os)) (take m (drop n (drop i os)))
      ∙ ap (λ (l : List Object). laid_all (take n (drop i os)) ++ laid_all (take m l)) (drop-drop n i os)

  rest_length : length (laid_all (drop i os)) ≡ length (laid_all (take n (drop i os))) + length (laid_all (drop (i + n) os))
  rest_length = ap length laid_rest ∙ length-append (laid_all (take n (drop i os))) (laid_all (drop (i + n) os))

-- one of them
laid_one : (os : List Object) (i : ℕ) (d : Object) → i < length os → laid_all (take 1 (drop i os)) ≡ laid (get_or os i d)
unfolding laid_all
laid_one os i d h = rw (drop-cons os i d h) (append-nil (laid (get_or os i d)))

module _ (os : List Object) (i at : ℕ) (l : List ℕ) (room : at + length (laid_all (drop i os)) ≤ length l) where
  -- it has room, and is put; past the end there is none
  pub one_room : (d : Object) {n : ℕ} → i < length os → n ≡ length (laid (get_or os i d)) → at + n ≤ length l
  one_room d h size = omega (arith, room, size, rest_length os i 1, ap length (laid_one os i d h))

  pub lays_one : (d : Object) {n : ℕ} {out : List ℕ} → i < length os → n ≡ length (laid (get_or os i d)) → out ≡ put_in l at (laid (get_or os i d))
      → Lays os i 1 l at out (at + n)
  lays_one d h size p =
      let fits = one_room d h size in
      record {
        end = rw (laid_one os i d h, size);
        left = rw (laid_one os i d h) (p ∙ put_in_fits l at (laid (get_or os i d)) (omega (arith, fits, size)));
      }

  pub lays_none : length os ≤ i → Lays os i 1 l at l at
  unfolding laid_all
  lays_none h = let e = drop_of_length-le os {i = i} h in record { end = rw e (omega arith); left = rw e (sym (put_none l at)) }

-- n of them, and m more after them
module _ {os : List Object} {i n at r : ℕ} {l out : List ℕ} (p : Lays os i n l at out r) (room : at + length (laid_all (drop i os)) ≤ length l) where
  pub lays_room : (j : ℕ) → j ≡ i + n → r + length (laid_all (drop j os)) ≤ length out
  lays_room j e =
      let more = rest_length os i n in
      let long = ap length p.left ∙ put_length l at (laid_all (take n (drop i os))) (omega (arith, more, room)) in
      rw e (omega (arith, more, long, room, p.end))

  pub lays_more : {j m r' : ℕ} {out' : List ℕ} → j ≡ i + n → Lays os j m out r out' r' → Lays os i (n + m) l at out' r'
  lays_more {j} {m} e q =
      let q' = rw e at q in
      let join = laid_join os i n m in
      let long = ap length join ∙ length-append (laid_all (take n (drop i os))) (laid_all (take m (drop (i + n) os))) in
      let within = rest_length os (i + n) m in
      record {
        end = omega (arith, q'.end, p.end, long);
        left = q'.left
            ∙ rw (p.left, p.end, join)
            (put_put l at (laid_all (take n (drop i os))) (laid_all (take m (drop (i + n) os))) (omega (arith, room, rest_length os i n, within)));
      }

-- the library's words
pub below_or : (bound : ℕ) (o : Option ℕ) (r : Bool) → MatchOption o (IsTrue r) (λ n. r ≡ ltb n bound) → r ≡ is_below o bound
unfolding is_below
below_or bound None true h = refl
below_or bound None false h = never h
below_or bound (Some n) r h = h
