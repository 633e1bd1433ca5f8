-- What the answer of `find` tells: the object, and its bytes in the message.
use Rattle.std.specs.Prelude.{Option, Some, None}
use Prim.Native.Nat.{ℕ, ◌+◌, ◌-◌, ◌≤◌}
use mathlib.Core.Path.{◌≡◌, refl, ap}
use mathlib.Core.List.{List, Memᴰ}
use mathlib.Core.Bool.{true}
use native.Mathlib.Omega.{arith}
use lib.ListN.{length, take, drop, length-take, length-drop}
use Rattle.std.proofs.lemmas.Option.{same_Some}
use Rattle.octets.specs.declared.part.Part.{Part}
use Rattle.octets.proofs.ChoiceLaws.{never}
use Rattle.object.specs.declared.family.Family.{Family}
use Rattle.object.specs.Family.{header_of, padded_in}
use Rattle.object.specs.Walk.{Item, walk_of, mine, one_of, found_of}
use Rattle.object.proofs.ItemLaws.{Stands, item_in}
use Rattle.object.proofs.ChosenLaws.{Chosen, one_in_law}

-- nothing found is none
pub found_none : (o : Option Item) → None ≡ found_of o → o ≡ None
unfolding found_of
found_none None e = refl
found_none (Some i) e = cc

-- `o` is the object whose value has n bytes from the offset `at` of the message m on; the message's objects end at `end`
pub record FoundAt (f : Family) (t : ℕ) (m : List ℕ) (end : ℕ) (o : Option Item) (at n : ℕ) : Type 0 where
  pub item : Item
  pub is : o ≡ Some item
  pub counts : mine f t item ≡ true
  pub stands : Stands m (header_of f) end item
  pub offset : at ≡ item.at
  pub size : n ≡ length item.value
  pub inside : at + n ≤ length m
  pub value : item.value ≡ take n (drop at m)

-- the objects of the first k bytes past the header
abbrev pub items_in : Family → List ℕ → ℕ → List Item
items_in f m k = (walk_of f (take k (drop (header_of f) m))).items

-- where they end
abbrev pub end_in : Family → List ℕ → ℕ → ℕ
end_in f m k = header_of f + length (take k (drop (header_of f) m))

-- each of them stands there
pub stands_in : (f : Family) (m : List ℕ) (k : ℕ) (i : Item) → Memᴰ i (items_in f m k) → Stands m (header_of f) (end_in f m k) i
unfolding walk_of
stands_in f m k i h = item_in (padded_in f) m (header_of f) k i h

module _ (f : Family) (t : ℕ) (m : List ℕ) (k : ℕ) where
  found_at : (o : Option Item) {at n : ℕ} → ((i : Item) → o ≡ Some i → Chosen f t (items_in f m k) i) → Some (record { at = at; len = n }) ≡ found_of o
      → FoundAt f t m (end_in f m k) o at n
  unfolding found_of
  found_at None h e = never cc
  found_at (Some i) {at} {n} h e =
      let c = h i refl in
      let s = stands_in f m k i c.among in
      let here : Part = record { at = at; len = n } in
      let there : Part = record { at = i.at; len = length i.value } in
      let offset : at ≡ i.at = ap (λ (p : Part). p.at) (same_Some here there e) in
      let size : n ≡ length i.value = ap (λ (p : Part). p.len) (same_Some here there e) in
      let few : length (take k (drop (header_of f) m)) ≤ length m - header_of f = simp (length-take, length-drop) (omega arith) in
      record {
        item = i;
        is = refl;
        counts = c.counts;
        stands = s;
        offset = offset;
        size = size;
        inside = omega (arith, s.past, s.within);
        value = rw (offset, size) s.value;
      }

  -- the one that counts, as it was found
  pub one_found : {at n : ℕ} → Some (record { at = at; len = n }) ≡ found_of (one_of f t (items_in f m k)) → FoundAt f t m (end_in f m k) (one_of f t (items_in f m k)) at n
  one_found e = found_at (one_of f t (items_in f m k)) (λ i q. one_in_law f t (items_in f m k) q) e
