-- The place of an address: where it is found, and what it means that it is not.
use Rattle.std.specs.Prelude.{Option, Some, None}
use Prim.Native.Nat.{ℕ, zero, suc, ◌+◌, ◌<◌, ◌≤◌}
use native.Mathlib.Omega.{arith}
use native.Mathlib.Numerals.{add-one}
use native.Mathlib.Nat.{le_of_suc-le-suc}
use mathlib.Core.Path.{◌≡◌, refl, ap, ◌∙◌}
use mathlib.Core.List.{List, [], ◌∷◌}
use mathlib.Core.Bool.{Bool, true, false, ◌&&◌}
use lib.ListN.{length, drop, get_or, drop_of_length-le}
use lib.Dec.{eqb}
use lib.Pointwise.{pointwise}
use lib.Seq.{drop-cons}
use Rattle.octets.specs.Choice.{pick, both}
use Rattle.octets.specs.Same.{same_bytes}
use Rattle.octets.proofs.ChoiceLaws.{not_both, both_left, both_right, both_true}
use Rattle.octets.proofs.SameLaws.{same_true, true_same}
use Rattle.places.specs.declared.place.Place.{Place}
use Rattle.places.specs.Place.{fresh_place, no_place}
use Rattle.places.specs.State.{is_for, find_from, find_of}

and_both : (b c : Bool) → (b && c) ≡ both b c
and_both true c = refl
and_both false c = refl

-- byte strings that std's `==` compares
pub equal_same : (a b : List ℕ) → pointwise eqb a b ≡ same_bytes a b
unfolding same_bytes
equal_same [] [] = refl
equal_same [] (y ∷ ys) = refl
equal_same (x ∷ xs) [] = refl
equal_same (x ∷ xs) (y ∷ ys) = and_both (eqb x y) (pointwise eqb xs ys) ∙ ap (both (eqb x y)) (equal_same xs ys)

-- a place is for an address: taken, and with that address
pub for_taken : (address : List ℕ) (p : Place) → is_for address p ≡ true → p.taken ≡ true
for_taken address p e = both_left p.taken (same_bytes p.address address) e

pub for_address : (address : List ℕ) (p : Place) → is_for address p ≡ true → p.address ≡ address
for_address address p e = same_true p.address address (both_right p.taken (same_bytes p.address address) e)

pub is_for_law : (address : List ℕ) (p : Place) → p.taken ≡ true → p.address ≡ address → is_for address p ≡ true
is_for_law address p t e = both_true p.taken (same_bytes p.address address) t (true_same p.address address e)

-- Place i is for an address and no lower one is.
pub record FoundAt (ps : List Place) (address : List ℕ) (i : ℕ) : Type 0 where
  pub within : i < length ps
  pub here : is_for address (get_or ps i fresh_place) ≡ true
  pub below : (j : ℕ) → j < i → is_for address (get_or ps j fresh_place) ≡ false

-- No place is for an address.
pub record NotFound (ps : List Place) (address : List ℕ) : Type 0 where
  pub none : (i : ℕ) → i < length ps → is_for address (get_or ps i fresh_place) ≡ false

module _ (address : List ℕ) where
  found_one : (p : Place) (ps : List Place) (i : ℕ) → is_for address p ≡ false → FoundAt ps address i → FoundAt (p ∷ ps) address (suc i)
  found_one p ps i e h = record { within = omega (arith, h.within); here = h.here; below = below }
    where
      below : (j : ℕ) → j < suc i → is_for address (get_or (p ∷ ps) j fresh_place) ≡ false
      below zero k = e
      below (suc j) k = h.below j (le_of_suc-le-suc k)

  none_one : (p : Place) (ps : List Place) → is_for address p ≡ false → NotFound ps address → NotFound (p ∷ ps) address
  none_one p ps e h = record { none = none }
    where
      none : (i : ℕ) → i < suc (length ps) → is_for address (get_or (p ∷ ps) i fresh_place) ≡ false
      none zero k = e
      none (suc i) k = h.none i (le_of_suc-le-suc k)

  -- what a search from a number on says
  abbrev Told : ℕ → List Place → Option ℕ → Type 0
  Told k ps (Some i) = (j : ℕ) × (i ≡ k + j) × FoundAt ps address j
  Told k ps None = NotFound ps address

  told : (k : ℕ) (ps : List Place) → Told k ps (find_from k ps address)
  unfolding find_from
  told k [] = record { none = λ i h. absurd (omega arith) }
  told k (p ∷ ps) = go (is_for address p) refl (told (k + 1) ps)
    where
      more : (w : Option ℕ) → is_for address p ≡ false → Told (k + 1) ps w → Told k (p ∷ ps) w
      more (Some i) e t = (suc t.0, omega (arith, t.1), found_one p ps t.0 e t.2)
      more None e t = none_one p ps e t

      go : (b : Bool) → is_for address p ≡ b → Told (k + 1) ps (find_from (k + 1) ps address)
          → Told k (p ∷ ps) (pick b (Some k) (find_from (k + 1) ps address))
      go true e t = (0, omega arith, record { within = omega arith; here = e; below = λ j h. absurd (omega arith) })
      go false e t = more (find_from (k + 1) ps address) e t

  module _ (ps : List Place) where
    -- what the search tells
    pub find_at : (i : ℕ) → find_of ps address ≡ Some i → FoundAt ps address i
    find_at i e =
        let t : Told 0 ps (Some i) = rw e at (told 0 ps) in
        let same : t.0 ≡ i = omega (arith, t.1) in
        rw same at t.2

    pub find_nowhere : find_of ps address ≡ None → NotFound ps address
    find_nowhere e = rw e at (told 0 ps)

    -- where no place is the address's, the search tells it
    pub not_found : NotFound ps address → find_of ps address ≡ None
    not_found h = go (find_of ps address) refl
      where
        go : (w : Option ℕ) → find_of ps address ≡ w → w ≡ None
        go (Some i) e = let f = find_at i e in not_both f.here (h.none i f.within)
        go None e = refl

    -- the search from place i on, of an array in code
    abbrev pub rest : ℕ → Option ℕ
    rest i = find_from i (drop i ps) address

    step : (i : ℕ) → i < length ps → rest i ≡ pick (is_for address (get_or ps i no_place)) (Some i) (rest (i + 1))
    unfolding find_from
    step i h = ap (λ (l : List Place). find_from i l address) (drop-cons ps i no_place h) ∙ rw add-one

    pub rest_here : (i : ℕ) → i < length ps → is_for address (get_or ps i no_place) ≡ true → rest i ≡ Some i
    rest_here i h e = step i h ∙ rw e

    pub rest_next : (i : ℕ) → i < length ps → is_for address (get_or ps i no_place) ≡ false → rest i ≡ rest (i + 1)
    rest_next i h e = step i h ∙ rw e

    pub rest_none : (i : ℕ) → length ps ≤ i → rest i ≡ None
    unfolding find_from
    rest_none i h = ap (λ (l : List Place). find_from i l address) (drop_of_length-le ps h)
