-- Chains over the objects of a type that count: the first, the last, and the one at a place.
use Prim.Native.Nat.{ℕ, zero, suc, ◌≤◌}
use native.Mathlib.Omega.{arith}
use lib.ListN.{length}
use mathlib.Core.Path.{◌≡◌, refl, sym, ap, ap₂, ◌∙◌}
use mathlib.Core.List.{List, [], ◌∷◌}
use mathlib.Core.Bool.{Bool, true, false}
use Rattle.std.specs.Prelude.{Option, Some, None, filter, cond}
use Rattle.std.specs.List.{slice_get}
use Rattle.std.specs.Iterator.{YieldsThen, YieldsFirstBy}
use Rattle.std.proofs.lemmas.Iterator.{YieldsList}
use Rattle.std.proofs.lemmas.Iterator.Consumers.{YieldsList-from_first, YieldsList-from_shown}
use Rattle.std.proofs.lemmas.List.Sums.{length-filter, count_by-le-length}
use lib.Dec.{eqb}
use Rattle.octets.specs.declared.part.Part.{Part}
use Rattle.octets.specs.Choice.{pick, both}
use Rattle.octets.proofs.ChoiceLaws.{never}
use Rattle.object.specs.declared.family.Family.{Family}
use Rattle.object.specs.declared.objects.Item.{Item as Taken}
use Rattle.object.specs.declared.objects.Mine.{Mine}
use Rattle.object.specs.declared.objects.Objects.{Objects}
use Rattle.object.specs.Family.{last_in}
use Rattle.object.specs.declared.rule.Rule.{Rule}
use Rattle.object.specs.Rule.{rule_of, counts_for}
use Rattle.object.specs.Objects.{item_of, walk_left, objects_left, ended, GivesObject, mine_left}
use Rattle.object.specs.Walk.{Item, Walk, mine, or_else, join, one_of, all_of, nth_of, found_of}
use Rattle.object.proofs.ChosenLaws.{join_none, none_join}
use Rattle.object.proofs.ObjectsLaws.{few_objects}

-- of all objects those that are left come, up to the end or to one that is broken
pub objects_chain : (s : Objects) → YieldsList GivesObject item_of s (objects_left s)
objects_chain s =
    YieldsList-from_shown GivesObject item_of objects_left (λ t u h. ap (λ (x : Walk). length x.items) h.0) (λ t x u h. ap (λ (x : Walk). x.items) h) s

pub all_ended : (s u : Objects) (xs : List Taken) → YieldsThen GivesObject s xs None u → (walk_left s).ends ≡ (ended u).ends
all_ended s u [] h = ap (λ (o : Objects). (walk_left o).ends) h.1 ∙ ap (λ (w : Walk). w.ends) h.2.0
all_ended s u (x ∷ xs) h = ap (λ (w : Walk). w.ends) h.1.1 ∙ all_ended h.1.0 u xs (h.0, h.1.2, h.2)

-- and of those that count
pub mine_chain : (s : Mine) (all : List Item) → mine_left s ≡ all → YieldsList (YieldsFirstBy item_of mine_left) item_of s all
mine_chain s all e = YieldsList-from_first item_of mine_left all e

-- no more than there are bytes
pub few_mine : (s : Mine) → length (mine_left s) ≤ length s.objects.rest.now
few_mine s =
    let test : Item → Bool = λ i. both (eqb i.kind s.wanted) (counts_for s.rule i.value) in
    let all : List Item = objects_left s.objects in
    omega (arith, length-filter test all, count_by-le-length test all, few_objects s.objects.padding s.objects.at s.objects.rest.now)

module _ (f : Family) (t : ℕ) where
  -- all that count
  pub all_filter : (is : List Item) → all_of f t is ≡ filter (mine f t) is
  unfolding all_of
  all_filter [] = refl
  all_filter (i ∷ is) = all_step (mine f t i) (all_filter is)
    where
      all_step : (b : Bool) → all_of f t is ≡ filter (mine f t) is → pick b (i ∷ all_of f t is) (all_of f t is) ≡ cond b (i ∷ filter (mine f t) is) (filter (mine f t) is)
      all_step true e = ap (◌∷◌ i) e
      all_step false e = e

  -- the test, by the rule that the code has
  pub mine_by : {rule : Rule} (i : Item) → rule ≡ rule_of f t → both (eqb i.kind t) (counts_for rule i.value) ≡ mine f t i
  unfolding mine
  mine_by i e = rw e refl

  pub mine_all : {rule : Rule} {v w : Walk} → rule ≡ rule_of f t → v ≡ w
      → filter (λ (i : Item). both (eqb i.kind t) (counts_for rule i.value)) v.items ≡ all_of f t w.items
  unfolding mine
  mine_all {w = w} e h = rw (e, h) (sym (all_filter w.items))

-- Of the objects that were passed one was found, `so_far`, or none; with the one of those left it makes that of all. Where the first counts, none was found yet.
pub record Finding (f : Family) (t : ℕ) (all : List Item) (found : Option Part) (left : List Item) : Type 0 where
  pub so_far : Option Item
  pub told : found ≡ found_of so_far
  pub joined : join (last_in f) so_far (one_of f t left) ≡ one_of f t all
  pub first : last_in f ≡ false → so_far ≡ None

-- an object as it is answered
pub part_found : (x : Taken) (p : Part) → p.at ≡ x.at → p.len ≡ length x.value.now → Some p ≡ found_of (Some (item_of x))
unfolding found_of
part_found x p e h = ap₂ (λ (at len : ℕ). Some (record { at = at; len = len })) e h

over : (a : Option Item) (i : Item) (p : Option Item) → or_else (or_else a (Some i)) p ≡ or_else a (Some i)
over None i p = refl
over (Some j) i p = refl

module _ (f : Family) (t : ℕ) where
  -- nothing passed yet
  pub finds_none : (all : List Item) → Finding f t all None all
  unfolding found_of
  finds_none all = record {
    so_far = None;
    told = refl;
    joined = none_join (last_in f) (one_of f t all);
    first = λ e. refl;
  }

  module _ {all left : List Item} {found : Option Part} (s : Finding f t all found left) where
    -- all passed
    pub finds_end : left ≡ [] → found ≡ found_of (one_of f t all)
    unfolding one_of
    finds_end e = s.told ∙ ap found_of (sym (join_none (last_in f) s.so_far) ∙ (rw e at s.joined))

    -- one more passed
    module _ {i : Item} {rest : List Item} (e : left ≡ i ∷ rest) where
      one_more : join (last_in f) s.so_far (join (last_in f) (pick (mine f t i) (Some i) None) (one_of f t rest)) ≡ one_of f t all
      unfolding one_of
      one_more = rw e at s.joined

      -- which doesn't count; which does, where the first counts, and where the last does
      pub finds_other : mine f t i ≡ false → Finding f t all found rest
      finds_other m = record {
        so_far = s.so_far;
        told = s.told;
        joined = ap (join (last_in f) s.so_far) (sym (none_join (last_in f) (one_of f t rest))) ∙ (rw m at one_more);
        first = s.first;
      }

      pub finds_first : {found' : Option Part} → mine f t i ≡ true → last_in f ≡ false → found' ≡ found_of (Some i) → found' ≡ found_of (one_of f t all)
      finds_first m l told = told ∙ ap found_of (rw (m, l, s.first l) at one_more)

      pub finds_last : {found' : Option Part} → mine f t i ≡ true → last_in f ≡ true → found' ≡ found_of (Some i) → Finding f t all found' rest
      finds_last m l told = record {
        so_far = Some i;
        told = told;
        joined = rw l (sym (over (one_of f t rest) i s.so_far) ∙ (rw (m, l) at one_more));
        first = λ n. never (sym n ∙ l);
      }

pub nth_get : (n : ℕ) (is : List Item) → slice_get is n ≡ nth_of n is
unfolding nth_of
nth_get n [] = refl
nth_get zero (i ∷ is) = refl
nth_get (suc n) (i ∷ is) = nth_get n is
