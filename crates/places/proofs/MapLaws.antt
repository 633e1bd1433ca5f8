-- A list that is mapped from the front, one element a turn.
use Prim.Native.Nat.{ℕ, suc, ◌+◌, ◌<◌, ◌≤◌}
use native.Mathlib.Numerals.{add-one}
use native.Mathlib.Nat.{le_of_lt}
use mathlib.Core.Path.{◌≡◌, refl, sym, ap, ap₂, ◌∙◌}
use mathlib.Core.List.{List, [], ◌∷◌, ◌++◌, map, append-nil, map-append}
use lib.ListN.{length, take, drop, get_or, set, length-map, drop_of_length-le}
use lib.Seq.{drop-cons, take-suc, take_all, set_at, get_or_at, length-take-le, append_snoc}

module _ {A : Type 0} (f : A → A) where
  -- a map that changes nothing the second time
  pub map_again : ((x : A) → f (f x) ≡ f x) → (l : List A) → map f (map f l) ≡ map f l
  map_again h [] = refl
  map_again h (x ∷ l) = ap₂ ◌∷◌ (h x) (map_again h l)

  module _ (l : List A) where
    -- the first i elements are mapped
    abbrev pub up_to : ℕ → List A
    up_to i = map f (take i l) ++ drop i l

    front : (i : ℕ) → i ≤ length l → length (map f (take i l)) ≡ i
    front i h = simp length-map (length-take-le i l h)

    -- the next element is read as it was, and is written
    pub up_to_read : (i : ℕ) (d : A) → i < length l → get_or (up_to i) i d ≡ get_or l i d
    up_to_read i d h =
        ap (λ (t : List A). get_or (map f (take i l) ++ t) i d) (drop-cons l i d h)
        ∙ get_or_at (map f (take i l)) _ _ d i (front i (le_of_lt h))

    pub up_to_write : (i : ℕ) (d : A) → i < length l → set (up_to i) i (f (get_or l i d)) ≡ up_to (i + 1)
    up_to_write i d h =
        ap (λ (t : List A). set (map f (take i l) ++ t) i (f (get_or l i d))) (drop-cons l i d h)
        ∙ set_at (map f (take i l)) _ _ (f (get_or l i d)) i (front i (le_of_lt h))
        ∙ rw (add-one i, take-suc l i d h, map-append) (sym (append_snoc (map f (take i l)) (f (get_or l i d)) (drop (suc i) l)))

    -- an element that the map leaves as it is need not be written
    pub up_to_skip : (i : ℕ) (d : A) → i < length l → f (get_or l i d) ≡ get_or l i d → up_to i ≡ up_to (i + 1)
    up_to_skip i d h e =
        ap (λ (t : List A). map f (take i l) ++ t) (drop-cons l i d h)
        ∙ rw (add-one i, take-suc l i d h, map-append, e) (sym (append_snoc (map f (take i l)) (get_or l i d) (drop (suc i) l)))

    -- all are mapped
    pub up_to_all : (i : ℕ) → length l ≤ i → up_to i ≡ map f l
    up_to_all i h = rw (take_all i l h, drop_of_length-le l h) (append-nil (map f l))
