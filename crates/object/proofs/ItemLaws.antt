-- Where an object of a walk stands in the message, and what its bytes are.
use Prim.Native.Nat.{ℕ, ◌+◌, ◌-◌, ◌≤◌, ◌<◌}
use mathlib.Core.Path.{◌≡◌, refl, sym, ap, ◌∙◌, subst}
use mathlib.Core.Logic.{⊎_elim}
use mathlib.Core.List.Memᴰ
use mathlib.Core.List.{List, ◌++◌, Memᴰ}
use mathlib.Core.Bool.{Bool}
use native.Mathlib.Omega.{arith}
use lib.ListN.{length, get_or, take, drop, length-drop, take-append-drop, get_or-append}
use lib.Seq.{get_or-drop, drop-drop, drop-append-le}
use Rattle.object.specs.declared.walk.Piece.TheVariants.{Object}
use Rattle.object.specs.Walk.{piece_of, Item, Walk, walk_from}
use Rattle.object.proofs.WalkLaws.{item_at, StandsWhole, value_length, value_of, Steps, walk_each}

-- What holds of each object, since it holds of one that stands at the start of a tail of which T holds, and T holds of each tail.
module _ (p : Bool) (T : ℕ → List ℕ → Type 0) (R : Item → Type 0)
    (tail : (at : ℕ) (l : List ℕ) (n : ℕ) → n ≤ length l → T at l → T (at + n) (drop n l))
    (one : (at : ℕ) (l : List ℕ) (t n : ℕ) → Object t n ≡ piece_of p l → StandsWhole l t n → T at l → R (item_at t n at l)) where
  abbrev Each : ℕ → List ℕ → Walk → Type 0
  Each at l w = T at l → (i : Item) → Memᴰ i w.items → R i

  each : Steps p Each
  each = record {
    none = λ at l z t i m. absurd (Memᴰ.not-nil m);
    broken = λ at l t i m. absurd (Memᴰ.not-nil m);
    padding = λ at l e some w more t i m. more (tail at l 1 some t) i m;
    object = λ at l k n e there w more t i m.
        ⊎_elim
        (λ (q : i ≡ item_at k n at l). subst R (sym q) (one at l k n e there t))
        (λ later. more (tail at l n there.high t) i later)
        (Memᴰ.cases_cons m);
  }

  pub item_each : (at : ℕ) (l : List ℕ) → T at l → (i : Item) → Memᴰ i (walk_from p at l).items → R i
  item_each at l t i m = walk_each p Each each at l t i m

-- an object stands in the message m, past `from` and before `end`
pub record Stands (m : List ℕ) (from end : ℕ) (i : Item) : Type 0 where
  pub past : from + 2 ≤ i.at
  pub within : i.at + length i.value ≤ end
  pub value : i.value ≡ take (length i.value) (drop i.at m)
  pub kind : i.kind ≡ get_or m (i.at - 2) 0
  pub size : 2 + length i.value ≡ get_or m (i.at - 1) 0

-- a tail that starts at the offset `at` of the message
record Tail (m : List ℕ) (from end at : ℕ) (l : List ℕ) : Type 0 where
  pub rest : List ℕ
  pub is : drop at m ≡ l ++ rest
  pub start : from ≤ at
  pub sum : at + length l ≡ end

-- the next tail, a tail's bytes, and the object at its start
tail_after : (m : List ℕ) (from end at : ℕ) (l : List ℕ) (n : ℕ) → n ≤ length l → Tail m from end at l → Tail m from end (at + n) (drop n l)
tail_after m from end at l n h t = record {
  rest = t.rest;
  is = sym (drop-drop n at m) ∙ ap (drop n) t.is ∙ drop-append-le n l t.rest h;
  start = omega (arith, t.start);
  sum = simp length-drop (omega (arith, t.sum));
}

tail_byte : (m : List ℕ) (from end at : ℕ) (l : List ℕ) → Tail m from end at l → (k : ℕ) → k < length l → get_or l k 0 ≡ get_or m (at + k) 0
tail_byte m from end at l t k h = sym (get_or-append l t.rest 0 k h) ∙ ap (λ (x : List ℕ). get_or x k 0) (sym t.is) ∙ get_or-drop at m k 0

tail_item : (m : List ℕ) (from end at : ℕ) (l : List ℕ) (t n : ℕ) → StandsWhole l t n → Tail m from end at l → Stands m from end (item_at t n at l)
tail_item m from end at l t n o h =
    let low = o.low in
    let high = o.high in
    let long : length (take (n - 2) (drop 2 l)) ≡ n - 2 = value_length o in
    let first : at + 0 ≡ at + 2 - 2 = omega arith in
    let second : at + 1 ≡ at + 2 - 1 = omega arith in
    let whole : 2 + length (take (n - 2) (drop 2 l)) ≡ n = omega arith in
    record {
      past = omega (arith, h.start);
      within = omega (arith, h.sum);
      value = sym (rw (long, ← drop-drop 2 at m, h.is) (value_of n l h.rest low high));
      kind = o.kind ∙ tail_byte m from end at l h 0 (omega arith) ∙ ap (λ (k : ℕ). get_or m k 0) first;
      size = whole ∙ o.size ∙ tail_byte m from end at l h 1 (omega arith) ∙ ap (λ (k : ℕ). get_or m k 0) second;
    }

-- each object of a part of the message stands in it
pub item_in : (p : Bool) (m : List ℕ) (at n : ℕ) (i : Item) → Memᴰ i (walk_from p at (take n (drop at m))).items
    → Stands m at (at + length (take n (drop at m))) i
item_in p m at n i h =
    let body : List ℕ = take n (drop at m) in
    let end : ℕ = at + length body in
    item_each p (Tail m at end) (Stands m at end) (tail_after m at end)
    (λ to l t k e there tail. tail_item m at end to l t k there tail)
    at body (record { rest = drop n (drop at m); is = sym (take-append-drop n (drop at m)); start = omega arith; sum = refl }) i h
