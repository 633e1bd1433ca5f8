-- A run that a writer is given, once it is tested (`is_run`): it is the objects of its values, and each of them is one that a message can hold.
use Rattle.std.specs.Prelude.{Ok}
use Prim.Native.Nat.{ℕ, suc, ◌+◌, ◌-◌, ◌≤◌}
use mathlib.Core.Path.{◌≡◌, refl, sym, ap, ap₂, subst}
use mathlib.Core.Bool.{true, false}
use mathlib.Core.List.{List, [], ◌∷◌, ◌++◌}
use native.Mathlib.Omega.{arith}
use lib.Dec.{ltb, eqb}
use lib.ListN.{length, get_or, take, drop, take-append-drop}
use Rattle.octets.specs.Choice.{pick, both, every}
use Rattle.octets.specs.Numbers.{Bytes}
use Rattle.octets.proofs.BytesLaws.{bytes_drop}
use Rattle.octets.proofs.ChoiceLaws.{never, in_turn, pick_all, both_none}
use Rattle.object.specs.declared.family.Family.TheVariants.{Misauth}
use Rattle.object.specs.declared.walk.Piece.{Piece}
use Rattle.object.specs.declared.walk.Piece.TheVariants.{End, Padding, Object, Broken}
use Rattle.object.specs.Rule.{rule_of, rule_of_misauth}
use Rattle.object.specs.Walk.{piece_of, Item, Walk, onto, walk_from, mine, is_whole}
use Rattle.object.proofs.WalkLaws.{item_at, StandsWhole, value_length, Steps, walk_each, walk_none}
use Rattle.object.proofs.ChosenLaws.{counts_fixed, mine_kind, mine_counts}
use Rattle.message.specs.Writing.{encoded, repeats}
use Rattle.message.proofs.ObjectLaws.{object_bytes_law}
use Rattle.message.proofs.RunLaws.{RunProper}
use Rattle.message.proofs.ValueLaws.{EachFits, EachOf}
use Rattle.misauth.specs.Run.{is_run, values_of, run_values}

-- what is said of the bytes l and the objects that a walk over them meets
record Is (t : ℕ) (l : List ℕ) (items : List Item) : Type 0 where
  pub bytes : encoded (repeats t (values_of items)) ≡ l
  pub proper : RunProper Misauth t (values_of items)

abbrev Says : ℕ → ℕ → List ℕ → Walk → Type 0
Says t at l w = is_whole w.ends ≡ true → every (mine Misauth t) w.items ≡ true → Bytes l → Is t l w.items

-- without a padding type there is no padding
abbrev pub NotPadding : Piece → Type 0
NotPadding End = Unit
NotPadding Padding = ⊥
NotPadding (Object t n) = Unit
NotPadding Broken = Unit

pub not_padding : (l : List ℕ) → NotPadding (piece_of false l)
unfolding piece_of
not_padding l =
    let s₄ : Piece = pick (ltb (length l) (get_or l 1 0)) Broken (Object (get_or l 0 0) (get_or l 1 0)) in
    let s₃ : Piece = pick (ltb (get_or l 1 0) 2) Broken s₄ in
    let s₂ : Piece = pick (ltb (length l) 2) Broken s₃ in
    pick_all NotPadding (eqb (length l) 0) End (pick (both (eqb (get_or l 0 0) 0) false) Padding s₂) (λ _. tt) λ _.
    rw (both_none (eqb (get_or l 0 0) 0))
    (pick_all NotPadding (ltb (length l) 2) Broken s₃ (λ _. tt) λ _.
    pick_all NotPadding (ltb (get_or l 1 0) 2) Broken s₄ (λ _. tt) λ _.
    pick_all NotPadding (ltb (length l) (get_or l 1 0)) Broken (Object (get_or l 0 0) (get_or l 1 0)) (λ _. tt) λ _. tt)

says_none : (t at : ℕ) (l : List ℕ) → length l ≡ 0 → Says t at l (record { items = []; ends = Ok tt })
unfolding encoded
says_none t at [] h whole mine b = record { bytes = refl; proper = tt }
says_none t at (x ∷ l) h whole mine b = absurd (omega arith)

-- type, length and value of an object, and what follows it
object_split : (l : List ℕ) (t n : ℕ) → StandsWhole l t n → t ∷ n ∷ (take (n - 2) (drop 2 l) ++ drop n l) ≡ l
object_split [] t n w = absurd (omega (arith, w.low, w.high))
object_split (x ∷ []) t n w = absurd (omega (arith, w.low, w.high))
object_split (x ∷ y ∷ r) t n w =
    let two : n ≡ suc (suc (n - 2)) = omega (arith, w.low) in
    let past : drop n (x ∷ y ∷ r) ≡ drop (n - 2) r = ap (λ (k : ℕ). drop k (x ∷ y ∷ r)) two in
    ap₂ ◌∷◌ w.kind (ap₂ ◌∷◌ w.size (rw past (take-append-drop (n - 2) r)))

says_object : (t at : ℕ) (l : List ℕ) (k n : ℕ) → StandsWhole l k n → (w : Walk) → Says t (at + n) (drop n l) w
    → Says t at l (onto (item_at k n at l) w)
unfolding encoded every
says_object t at l k n there w more whole all b =
    let item : Item = item_at k n at l in
    let (first, others) = in_turn (mine Misauth t item) (every (mine Misauth t) w.items) all in
    let rest = more whole others (bytes_drop n l b) in
    let kind : k ≡ t = mine_kind Misauth t item first in
    let sum : 2 + length item.value ≡ n = omega (arith, value_length there, there.low) in
    let short : length item.value ≤ 253 = omega (arith, there.size, b.small 1) in
    record {
      bytes = rw (object_bytes_law t item.value short, sum, rest.bytes, ← kind) (object_split l k n there);
      proper = (record { short = short; counts = mine_counts Misauth t item first }, rest.proper);
    }

says : (t : ℕ) → Steps false (Says t)
says t = record {
  none = says_none t;
  broken = λ at l whole all b. never cc;
  padding = λ at l e some w more whole all b. absurd (subst NotPadding (sym e) (not_padding l));
  object = λ at l k n e there w more. says_object t at l k n there w more;
}

module _ (t : ℕ) (given : List ℕ) (tested : is_run t given ≡ true) (b : Bytes given) where
  is : Is t given (walk_from false 0 given).items
  unfolding is_run
  is =
      let w : Walk = walk_from false 0 given in
      let (whole, all) = in_turn (is_whole w.ends) (every (mine Misauth t) w.items) tested in
      walk_each false (Says t) (says t) 0 given whole all b

  -- it is the objects of its values
  pub run_bytes : encoded (repeats t (run_values given)) ≡ given
  unfolding run_values
  run_bytes = is.bytes

  -- each of them is one that a message can hold
  pub run_proper : RunProper Misauth t (run_values given)
  unfolding run_values
  run_proper = is.proper

each_fits : (t : ℕ) (vs : List (List ℕ)) → RunProper Misauth t vs → EachFits vs
each_fits t [] h = tt
each_fits t (v ∷ vs) h = (h.0.short, each_fits t vs h.1)

each_sixteen : (vs : List (List ℕ)) → RunProper Misauth 95 vs → EachOf 16 vs
unfolding rule_of rule_of_misauth
each_sixteen [] h = tt
each_sixteen (v ∷ vs) h = (omega (arith, counts_fixed 18 v h.0.counts), each_sixteen vs h.1)

-- so what the round trips ask of repeated values holds of a run that a writer takes
pub run_fits : (t : ℕ) (given : List ℕ) → is_run t given ≡ true → Bytes given → EachFits (run_values given)
run_fits t given tested b = each_fits t (run_values given) (run_proper t given tested b)

pub run_sixteen : (given : List ℕ) → is_run 95 given ≡ true → Bytes given → EachOf 16 (run_values given)
run_sixteen given tested b = each_sixteen (run_values given) (run_proper 95 given tested b)

-- no bytes are a run of no objects
pub run_none : (t : ℕ) → is_run t [] ≡ true
unfolding is_run every
run_none t = rw (walk_none false 0)

pub values_none : run_values [] ≡ []
unfolding run_values
values_none = rw (walk_none false 0)
