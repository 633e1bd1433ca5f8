-- Objects that were written, as a walk meets them: each at its place, up to the end; and which value counts for a type.
use Rattle.std.specs.Prelude.{Option, Some, None, Ok}
use Prim.Native.Nat.{ℕ, ◌+◌, ◌≤◌}
use mathlib.Core.Path.{◌≡◌, refl, ap, ◌∙◌}
use mathlib.Core.Bool.{Bool, true, false}
use mathlib.Core.List.{List, [], ◌∷◌, ◌++◌}
use lib.ListN.{length}
use lib.Dec.{eqb}
use borrow.Author.Tests.{eqb-true, ne_eqb}
use Rattle.octets.proofs.ChoiceLaws.{never}
use Rattle.octets.specs.Choice.{pick, both}
use Rattle.object.specs.declared.family.Family.{Family}
use Rattle.object.specs.declared.family.Family.TheVariants.{Misp, Misauth}
use Rattle.object.specs.Family.{padded_in, last_in}
use Rattle.object.specs.Rule.{rule_of, rule_of_misp, rule_of_misauth, counts_for}
use Rattle.object.specs.Walk.{Item, onto, walk_from, mine, join, one_of}
use Rattle.object.proofs.WalkLaws.{walk_none, walk_object}
use Rattle.object.proofs.ChosenLaws.{none_join}
use Rattle.message.specs.Reading.{value_of}
use Rattle.message.specs.Writing.{Object, encoded}
use Rattle.message.proofs.ObjectLaws.{object_bytes_law}

-- an object that a message of the family can hold: its length fits one byte, and the rule of its type allows it
pub record Proper (f : Family) (o : Object) : Type 0 where
  pub short : length o.value ≤ 253
  pub counts : counts_for (rule_of f o.kind) o.value ≡ true

abbrev pub AllProper : Family → List Object → Type 0
AllProper f [] = Unit
AllProper f (o ∷ os) = Proper f o × AllProper f os

-- type 0 has no rule, so a proper object is no padding
rule_zero : (f : Family) (v : List ℕ) → counts_for (rule_of f 0) v ≡ false
unfolding rule_of rule_of_misp rule_of_misauth counts_for
rule_zero Misp v = refl
rule_zero Misauth v = refl

pub no_padding : (f : Family) (o : Object) → Proper f o → both (eqb o.kind 0) (padded_in f) ≡ false
no_padding f o p = rw (ne_eqb o.kind 0 not_zero)
  where
    not_zero : o.kind ≡ 0 → ⊥
    not_zero e =
        let c : counts_for (rule_of f 0) o.value ≡ true = rw e at p.counts in
        never (cc (rule_zero f o.value))

-- the objects as a walk hands them on, the first of them from the offset `at` on
abbrev pub items_from : ℕ → List Object → List Item
items_from at [] = []
items_from at (o ∷ os) = record { kind = o.kind; at = at + 2; value = o.value } ∷ items_from (at + 2 + length o.value) os

-- the walk over their bytes meets them, up to the end
pub walk_encoded : (f : Family) (at : ℕ) (os : List Object) → AllProper f os
    → walk_from (padded_in f) at (encoded os) ≡ record { items = items_from at os; ends = Ok tt }
unfolding encoded
walk_encoded f at [] h = walk_none (padded_in f) at
walk_encoded f at (o ∷ os) h =
    let v : List ℕ = o.value in
    let item : Item = record { kind = o.kind; at = at + 2; value = v } in
    ap (λ (l : List ℕ). walk_from (padded_in f) at (l ++ encoded os)) (object_bytes_law o.kind v h.0.short)
    ∙ walk_object (padded_in f) at o.kind v (encoded os) (no_padding f o h.0)
    ∙ ap (onto item) (walk_encoded f (at + 2 + length v) os h.1)

-- the values of the type t, in their order
abbrev pub given : ℕ → List Object → List (List ℕ)
given t [] = []
given t (o ∷ os) = pick (eqb o.kind t) (o.value ∷ given t os) (given t os)

-- of several values the first counts, or the last
abbrev last_of : List ℕ → List (List ℕ) → List ℕ
last_of v [] = v
last_of v (w ∷ ws) = last_of w ws

abbrev pub chosen : Bool → List (List ℕ) → Option (List ℕ)
chosen last [] = None
chosen last (v ∷ vs) = Some (pick last (last_of v vs) v)

-- of a proper object the type alone decides
pub mine_proper : (f : Family) (t : ℕ) (at : ℕ) (o : Object) → Proper f o
    → mine f t (record { kind = o.kind; at = at; value = o.value }) ≡ eqb o.kind t
unfolding mine
mine_proper f t at o p = go (eqb o.kind t) refl
  where
    go : (b : Bool) → eqb o.kind t ≡ b → both b (counts_for (rule_of f t) o.value) ≡ b
    go true e = rw (eqb-true o.kind t e) at p.counts
    go false e = refl

-- one value more in front
join_chosen : (last : Bool) (i : Item) (o : Option Item) (vs : List (List ℕ)) → value_of o ≡ chosen last vs
    → value_of (join last (Some i) o) ≡ chosen last (i.value ∷ vs)
join_chosen false i o vs e = refl
join_chosen true i None [] e = refl
join_chosen true i (Some j) [] e = never cc
join_chosen true i None (w ∷ ws) e = never cc
join_chosen true i (Some j) (w ∷ ws) e = e

by_test : (last : Bool) (i : Item) (rest : Option Item) (vs : List (List ℕ)) (b : Bool) → value_of rest ≡ chosen last vs
    → value_of (join last (pick b (Some i) None) rest) ≡ chosen last (pick b (i.value ∷ vs) vs)
by_test last i rest vs true e = join_chosen last i rest vs e
by_test last i rest vs false e = ap value_of (none_join last rest) ∙ e

-- the value of the object that counts is the one chosen
pub one_given : (f : Family) (t at : ℕ) (os : List Object) → AllProper f os
    → value_of (one_of f t (items_from at os)) ≡ chosen (last_in f) (given t os)
unfolding one_of
one_given f t at [] h = refl
one_given f t at (o ∷ os) h =
    let to : ℕ = at + 2 + length o.value in
    let item : Item = record { kind = o.kind; at = at + 2; value = o.value } in
    rw (mine_proper f t (at + 2) o h.0)
    (by_test (last_in f) item (one_of f t (items_from to os)) (given t os) (eqb o.kind t) (one_given f t to os h.1))
