-- The walk: a step takes bytes that are there and fuel does not matter; the walk over one object, over a part of one, and over two parts of
-- a message one after the other.
use Rattle.std.specs.Prelude.{Ok, Err}
use Prim.Native.Nat.{ℕ, zero, suc, ◌+◌, ◌-◌, ◌≤◌, ◌<◌}
use mathlib.Core.Path.{◌≡◌, refl, sym, ap, ◌∙◌, subst}
use mathlib.Core.List.{List, [], ◌∷◌, ◌++◌}
use mathlib.Core.Bool.{Bool, false}
use native.Mathlib.Omega.{arith}
use native.Mathlib.Nat.{pos_of_ne-zero, add_assoc, add-zero}
use lib.ListN.{length, get_or, take, drop, length-append, length-drop, get_or-append}
use lib.Seq.{drop-append-le, take_at, drop_at, length-take-le}
use lib.Dec.{ltb, eqb}
use borrow.Author.Tests.{eqb-true, eqb-false, ltb-false, le-ltb, lt-ltb, ne_eqb}
use Rattle.octets.specs.Choice.{pick, both}
use Rattle.octets.proofs.ChoiceLaws.{never, pick_all}
use Rattle.octets.proofs.ListLaws.{part_first}
use Rattle.object.specs.declared.walk.Piece.{Piece}
use Rattle.object.specs.declared.walk.Piece.TheVariants.{End, Padding, Object, Broken}
use Rattle.object.specs.Walk.{piece_of, Item, Walk, onto, after, walk_by, walk_from}

-- the object of type t and length n that stands at the start of a tail
abbrev pub item_at : ℕ → ℕ → ℕ → List ℕ → Item
item_at t n at l = record { kind = t; at = at + 2; value = take (n - 2) (drop 2 l) }

-- an object of type t and length n stands whole at the start of a tail
pub record StandsWhole (l : List ℕ) (t n : ℕ) : Type 0 where
  pub low : 2 ≤ n
  pub high : n ≤ length l
  pub kind : t ≡ get_or l 0 0
  pub size : n ≡ get_or l 1 0

-- its value is two bytes shorter
pub value_length : {l : List ℕ} {t n : ℕ} → StandsWhole l t n → length (take (n - 2) (drop 2 l)) ≡ n - 2
value_length {l} {t} {n} o = length-take-le (n - 2) (drop 2 l) (simp length-drop (omega (arith, o.low, o.high)))

-- what a piece takes is there
abbrev pub Good : List ℕ → Piece → Type 0
Good l End = length l ≡ 0
Good l Padding = 1 ≤ length l
Good l (Object t n) = StandsWhole l t n
Good l Broken = Unit

-- of each piece that a tail starts with
pub good : (p : Bool) (l : List ℕ) → Good l (piece_of p l)
unfolding piece_of
good p l =
    let s₄ : Piece = pick (ltb (length l) (get_or l 1 0)) Broken (Object (get_or l 0 0) (get_or l 1 0)) in
    let s₃ : Piece = pick (ltb (get_or l 1 0) 2) Broken s₄ in
    let s₂ : Piece = pick (ltb (length l) 2) Broken s₃ in
    let s₁ : Piece = pick (both (eqb (get_or l 0 0) 0) p) Padding s₂ in
    pick_all (Good l) (eqb (length l) 0) End s₁ (eqb-true (length l) 0) λ some.
    pick_all (Good l) (both (eqb (get_or l 0 0) 0) p) Padding s₂ (λ _. pos_of_ne-zero (eqb-false (length l) 0 some)) λ _.
    pick_all (Good l) (ltb (length l) 2) Broken s₃ (λ _. tt) λ _.
    pick_all (Good l) (ltb (get_or l 1 0) 2) Broken s₄ (λ _. tt) λ low.
    pick_all (Good l) (ltb (length l) (get_or l 1 0)) Broken (Object (get_or l 0 0) (get_or l 1 0)) (λ _. tt)
    λ high. record { low = ltb-false (get_or l 1 0) 2 low; high = ltb-false (length l) (get_or l 1 0) high; kind = refl; size = refl }

pub good_of : (p : Bool) (l : List ℕ) (s : Piece) → s ≡ piece_of p l → Good l s
good_of p l s e = subst (Good l) (sym e) (good p l)

-- the rest of a walk is asked of shorter lists only
after_same : (at : ℕ) (l : List ℕ) (s : Piece) → Good l s → (go go' : ℕ → List ℕ → Walk)
    → ((to : ℕ) (m : List ℕ) → length m < length l → go to m ≡ go' to m)
    → after s at l go ≡ after s at l go'
after_same at l End h go go' e = refl
after_same at l Padding h go go' e = e (at + 1) (drop 1 l) (simp length-drop (omega arith))
after_same at l (Object t n) h go go' e = ap (onto _) (e (at + n) (drop n l) (simp length-drop (omega (arith, h.low, h.high))))
after_same at l Broken h go go' e = refl

-- enough fuel is enough
enough : (p : Bool) (f g at : ℕ) (l : List ℕ) → length l < f → length l < g → walk_by p f at l ≡ walk_by p g at l
enough p zero g at l h k = absurd (omega arith)
enough p (suc f) zero at l h k = absurd (omega arith)
enough p (suc f) (suc g) at l h k =
    after_same at l (piece_of p l) (good p l) (walk_by p f) (walk_by p g) λ to m less. enough p f g to m (omega arith) (omega arith)

-- the walk, one step unfolded
pub walk_step : (p : Bool) (at : ℕ) (l : List ℕ) → walk_from p at l ≡ after (piece_of p l) at l (walk_from p)
unfolding walk_from
walk_step p at l =
    after_same at l (piece_of p l) (good p l) (walk_by p (length l)) (walk_from p)
    λ to m less. enough p (length l) (suc (length m)) to m less (omega arith)

-- What holds of the walk over each tail, since it holds at each step if it holds of what the step leaves.
pub record Steps (p : Bool) (P : ℕ → List ℕ → Walk → Type 0) : Type 0 where
  pub none : (at : ℕ) (l : List ℕ) → length l ≡ 0 → P at l (record { items = []; ends = Ok tt })
  pub broken : (at : ℕ) (l : List ℕ) → P at l (record { items = []; ends = Err at })
  pub padding : (at : ℕ) (l : List ℕ) → Padding ≡ piece_of p l → 1 ≤ length l → (w : Walk) → P (at + 1) (drop 1 l) w → P at l w
  pub object : (at : ℕ) (l : List ℕ) (t n : ℕ) → Object t n ≡ piece_of p l → StandsWhole l t n → (w : Walk) → P (at + n) (drop n l) w
      → P at l (onto (item_at t n at l) w)

module _ (p : Bool) (P : ℕ → List ℕ → Walk → Type 0) (each : Steps p P) where
  by_step : (at : ℕ) (l : List ℕ) → ((to : ℕ) (m : List ℕ) → length m < length l → P to m (walk_from p to m))
      → (s : Piece) → s ≡ piece_of p l → Good l s → P at l (after s at l (walk_from p))
  by_step at l shorter End e g = each.none at l g
  by_step at l shorter Padding e g =
      each.padding at l e g (walk_from p (at + 1) (drop 1 l)) (shorter (at + 1) (drop 1 l) (simp length-drop (omega arith)))
  by_step at l shorter (Object t n) e g =
      each.object at l t n e g (walk_from p (at + n) (drop n l))
      (shorter (at + n) (drop n l) (simp length-drop (omega (arith, g.low, g.high))))
  by_step at l shorter Broken e g = each.broken at l

  by_length : (k at : ℕ) (l : List ℕ) → length l < k → P at l (walk_from p at l)
  by_length zero at l h = absurd (omega arith)
  by_length (suc k) at l h =
      subst (P at l) (sym (walk_step p at l))
      (by_step at l (λ to m less. by_length k to m (omega arith)) (piece_of p l) refl (good p l))

  pub walk_each : (at : ℕ) (l : List ℕ) → P at l (walk_from p at l)
  walk_each at l = by_length (suc (length l)) at l (omega arith)

-- over nothing
pub walk_none : (p : Bool) (at : ℕ) → walk_from p at [] ≡ record { items = []; ends = Ok tt }
unfolding walk_from piece_of
walk_none p at = refl

-- An object that is no padding, with what follows it.
object_step : (p : Bool) (t : ℕ) (v rest : List ℕ) → both (eqb t 0) p ≡ false
    → piece_of p (t ∷ (2 + length v) ∷ (v ++ rest)) ≡ Object t (2 + length v)
unfolding piece_of
object_step p t v rest h =
    let l : List ℕ = t ∷ (2 + length v) ∷ (v ++ rest) in
    let long : length l ≡ 2 + length v + length rest = simp length-append (omega arith) in
    simp (
      ne_eqb (length l) 0 (λ e. omega arith),
      h,
      le-ltb (length l) 2 (omega arith),
      le-ltb (2 + length v) 2 (omega arith),
      le-ltb (length l) (2 + length v) (omega arith),
    )

pub walk_object : (p : Bool) (at t : ℕ) (v rest : List ℕ) → both (eqb t 0) p ≡ false
    → walk_from p at (t ∷ (2 + length v) ∷ (v ++ rest))
    ≡ onto (record { kind = t; at = at + 2; value = v }) (walk_from p (at + 2 + length v) rest)
walk_object p at t v rest h =
    let l : List ℕ = t ∷ (2 + length v) ∷ (v ++ rest) in
    let two : 2 + length v ≡ suc (suc (length v)) = omega arith in
    let size : 2 + length v - 2 ≡ length v = omega arith in
    let past : drop (2 + length v) l ≡ rest = rw two (drop_at v rest (length v) refl) in
    let value : take (2 + length v - 2) (v ++ rest) ≡ v = rw size (take_at v rest (length v) refl) in
    walk_step p at l ∙ rw (object_step p t v rest h, value, past, add_assoc)

-- A part of one, from its start on.
cut_first : (p : Bool) (t : ℕ) → both (eqb t 0) p ≡ false → piece_of p (t ∷ []) ≡ Broken
unfolding piece_of
cut_first p t h = simp h

cut_later : (p : Bool) (t : ℕ) (v : List ℕ) (k : ℕ) → both (eqb t 0) p ≡ false → k < length v → piece_of p (t ∷ (2 + length v) ∷ take k v) ≡ Broken
unfolding piece_of
cut_later p t v k h less =
    let l : List ℕ = t ∷ (2 + length v) ∷ take k v in
    let long : length (take k v) ≡ k = length-take-le k v (omega arith) in
    simp (
      ne_eqb (length l) 0 (λ e. omega arith),
      h,
      le-ltb (length l) 2 (omega arith),
      le-ltb (2 + length v) 2 (omega arith),
      lt-ltb (length l) (2 + length v) (omega arith),
    )

pub walk_cut : (p : Bool) (at t : ℕ) (v : List ℕ) (k : ℕ) → both (eqb t 0) p ≡ false → 0 < k → k < 2 + length v
    → walk_from p at (take k (t ∷ (2 + length v) ∷ v)) ≡ record { items = []; ends = Err at }
walk_cut p at t v zero h low high = absurd (omega arith)
walk_cut p at t v (suc zero) h low high = walk_step p at (t ∷ []) ∙ rw (cut_first p t h)
walk_cut p at t v (suc (suc k)) h low high =
    walk_step p at (t ∷ (2 + length v) ∷ take k v) ∙ rw (cut_later p t v k h (omega arith))

-- Two parts of a message, one after the other.
-- a piece that takes bytes does not look past them
abbrev Same : Bool → List ℕ → List ℕ → Piece → Type 0
Same p a b End = Unit
Same p a b Padding = piece_of p (a ++ b) ≡ Padding
Same p a b (Object t n) = piece_of p (a ++ b) ≡ Object t n
Same p a b Broken = Unit

same : (p : Bool) (a b : List ℕ) → Same p a b (piece_of p a)
unfolding piece_of
same p a b =
    let s₄ : Piece = pick (ltb (length a) (get_or a 1 0)) Broken (Object (get_or a 0 0) (get_or a 1 0)) in
    let s₃ : Piece = pick (ltb (get_or a 1 0) 2) Broken s₄ in
    let s₂ : Piece = pick (ltb (length a) 2) Broken s₃ in
    let s₁ : Piece = pick (both (eqb (get_or a 0 0) 0) p) Padding s₂ in
    let long : length (a ++ b) ≡ length a + length b = length-append a b in
    pick_all (Same p a b) (eqb (length a) 0) End s₁ (λ _. tt) λ e.
    let some : 1 ≤ length a = pos_of_ne-zero (eqb-false (length a) 0 e) in
    let type : get_or (a ++ b) 0 0 ≡ get_or a 0 0 = get_or-append a b 0 0 some in
    let first = ne_eqb (length (a ++ b)) 0 (λ z. omega arith) in
    pick_all (Same p a b) (both (eqb (get_or a 0 0) 0) p) Padding s₂ (λ pad. simp (first, type, pad)) λ pad.
    pick_all (Same p a b) (ltb (length a) 2) Broken s₃ (λ _. tt) λ two.
    let two = ltb-false (length a) 2 two in
    let size : get_or (a ++ b) 1 0 ≡ get_or a 1 0 = get_or-append a b 0 1 two in
    pick_all (Same p a b) (ltb (get_or a 1 0) 2) Broken s₄ (λ _. tt) λ low.
    pick_all (Same p a b) (ltb (length a) (get_or a 1 0)) Broken (Object (get_or a 0 0) (get_or a 1 0)) (λ _. tt)
    λ high.
    let high = ltb-false (length a) (get_or a 1 0) high in
    simp (first, type, pad, le-ltb (length (a ++ b)) 2 (omega arith), size, low, le-ltb (length (a ++ b)) (get_or a 1 0) (omega arith))

same_of : (p : Bool) (a b : List ℕ) (s : Piece) → s ≡ piece_of p a → Same p a b s
same_of p a b s e = subst (Same p a b) (sym e) (same p a b)

-- the objects of both, and the end of the second
abbrev pub then : Walk → Walk → Walk
then v w = record { items = v.items ++ w.items; ends = w.ends }

-- a step of n bytes leaves the same of both parts
left_of_law : (at n : ℕ) (a b : List ℕ) → n ≤ length a → (drop n (a ++ b) ≡ drop n a ++ b) × (at + n + length (drop n a) ≡ at + length a)
left_of_law at n a b h = (drop-append-le n a b h, simp length-drop (omega arith))

-- and a value is the same with what follows it
pub value_of : (n : ℕ) (a b : List ℕ) → 2 ≤ n → n ≤ length a → take (n - 2) (drop 2 (a ++ b)) ≡ take (n - 2) (drop 2 a)
value_of n a b low high = part_first 2 (n - 2) a b (omega arith)

-- what is shown of each tail of the first part
abbrev Appends : Bool → List ℕ → ℕ → List ℕ → Walk → Type 0
Appends p b at a w = w.ends ≡ Ok tt → walk_from p at (a ++ b) ≡ then w (walk_from p (at + length a) b)

appends_none : (p : Bool) (b : List ℕ) (at : ℕ) (a : List ℕ) → length a ≡ 0 → Appends p b at a (record { items = []; ends = Ok tt })
appends_none p b at [] h whole = rw add-zero
appends_none p b at (x ∷ a) h whole = absurd (omega arith)

appends : (p : Bool) (b : List ℕ) → Steps p (Appends p b)
appends p b = record {
  none = appends_none p b;
  broken = λ at a whole. never cc;
  padding = λ at a e one w more whole.
      let left = left_of_law at 1 a b one in
      walk_step p at (a ++ b) ∙ rw (same_of p a b Padding e, left.0) (more whole ∙ rw left.1);
  object = λ at a t n e there w more whole.
      let left = left_of_law at n a b there.high in
      walk_step p at (a ++ b)
      ∙ rw (same_of p a b (Object t n) e, left.0, value_of n a b there.low there.high, more whole, left.1);
}

-- the walk over both parts
pub walk_append : (p : Bool) (at : ℕ) (a b : List ℕ) → (walk_from p at a).ends ≡ Ok tt
    → walk_from p at (a ++ b) ≡ then (walk_from p at a) (walk_from p (at + length a) b)
walk_append p at a b whole = walk_each p (Appends p b) (appends p b) at a whole
