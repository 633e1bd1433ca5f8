-- The object of a type that counts: it is one of the objects and has a length that its rule allows, and of two parts of a message it is the
-- one's or the other's.
use Rattle.std.specs.Prelude.{Option, Some, None}
use Prim.Native.Nat.{ℕ, ◌+◌}
use mathlib.Core.Path.{◌≡◌, refl, sym, ap, ◌∙◌}
use mathlib.Core.Logic.{◌⊎◌, inl, inr, ⊎_elim}
use mathlib.Core.List.{List, [], ◌∷◌, ◌++◌, Memᴰ}
use mathlib.Core.Bool.{Bool, true, false}
use lib.ListN.{length}
use lib.Dec.{eqb}
use borrow.Author.Tests.{eqb-true, ne_eqb}
use Rattle.octets.specs.Choice.{pick}
use Rattle.octets.proofs.ChoiceLaws.{never, both_left, both_right}
use Rattle.object.specs.declared.family.Family.{Family}
use Rattle.object.specs.declared.rule.Rule.TheVariants.{Fixed}
use Rattle.object.specs.Family.{last_in}
use Rattle.object.specs.Rule.{rule_of, counts_for}
use Rattle.object.specs.Walk.{Item, mine, join, one_of}

-- what the rule of one length says of a value
pub counts_fixed : (n : ℕ) (value : List ℕ) → counts_for (Fixed n) value ≡ true → 2 + length value ≡ n
unfolding counts_for
counts_fixed n value e = eqb-true (2 + length value) n e

module _ (f : Family) (t : ℕ) where
  -- one that counts has the type, and a length allowed; one of another type does not count
  pub mine_kind : (i : Item) → mine f t i ≡ true → i.kind ≡ t
  unfolding mine
  mine_kind i e = eqb-true i.kind t (both_left (eqb i.kind t) (counts_for (rule_of f t) i.value) e)

  pub mine_counts : (i : Item) → mine f t i ≡ true → counts_for (rule_of f t) i.value ≡ true
  unfolding mine
  mine_counts i e = both_right (eqb i.kind t) (counts_for (rule_of f t) i.value) e

  pub mine_other : (i : Item) → (i.kind ≡ t → ⊥) → mine f t i ≡ false
  unfolding mine
  mine_other i h = rw (ne_eqb i.kind t h)

-- The earlier or the later of two.
pub join_assoc : (last : Bool) (a b c : Option Item) → join last a (join last b c) ≡ join last (join last a b) c
join_assoc true a b None = refl
join_assoc true a b (Some i) = refl
join_assoc false None b c = refl
join_assoc false (Some i) b c = refl

pub join_none : (last : Bool) (a : Option Item) → join last a None ≡ a
join_none true a = refl
join_none false None = refl
join_none false (Some i) = refl

pub none_join : (last : Bool) (a : Option Item) → join last None a ≡ a
none_join false a = refl
none_join true None = refl
none_join true (Some i) = refl

join_cases : (last : Bool) (a b : Option Item) {i : Item} → join last a b ≡ Some i → (a ≡ Some i) ⊎ (b ≡ Some i)
join_cases true a None e = inl e
join_cases true a (Some j) e = inr e
join_cases false None b e = inr e
join_cases false (Some j) b e = inl e

-- the one that is chosen is one that counts
pub record Chosen (f : Family) (t : ℕ) (is : List Item) (i : Item) : Type 0 where
  pub among : Memᴰ i is
  pub counts : mine f t i ≡ true

-- with another before it, and the first itself
chosen_later : {f : Family} {t : ℕ} {is : List Item} {i : Item} (j : Item) → Chosen f t is i → Chosen f t (j ∷ is) i
chosen_later j c = record { among = Memᴰ.tail c.among; counts = c.counts }

module _ (f : Family) (t : ℕ) where
  chosen_first : (is : List Item) {i : Item} (j : Item) → pick (mine f t j) (Some j) None ≡ Some i → Chosen f t (j ∷ is) i
  chosen_first is {i} j e = go (mine f t j) refl e
    where
      go : (b : Bool) → mine f t j ≡ b → pick b (Some j) None ≡ Some i → Chosen f t (j ∷ is) i
      go true m q = let s : i ≡ j = cc in record { among = Memᴰ.head s; counts = rw s m }
      go false m q = never cc

  -- what is chosen is among them, and counts
  pub one_in_law : (is : List Item) {i : Item} → one_of f t is ≡ Some i → Chosen f t is i
  unfolding one_of
  one_in_law [] e = never cc
  one_in_law (j ∷ is) e =
      ⊎_elim (chosen_first is j) (λ q. chosen_later j (one_in_law is q))
      (join_cases (last_in f) (pick (mine f t j) (Some j) None) (one_of f t is) e)

  -- of two lists, one after the other
  pub one_append : (is js : List Item) → one_of f t (is ++ js) ≡ join (last_in f) (one_of f t is) (one_of f t js)
  unfolding one_of
  one_append [] js = sym (none_join (last_in f) (one_of f t js))
  one_append (i ∷ is) js =
      ap (join (last_in f) (pick (mine f t i) (Some i) None)) (one_append is js)
      ∙ join_assoc (last_in f) (pick (mine f t i) (Some i) None) (one_of f t is) (one_of f t js)
