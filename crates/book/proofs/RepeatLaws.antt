-- Keys that are all different, one key after the other.
use Prim.Native.Nat.{ℕ, ◌+◌, ◌*◌, ◌<◌, ◌≤◌}
use native.Mathlib.Omega.{arith}
use mathlib.Core.Path.{◌≡◌, refl, sym, ap, ◌∙◌}
use mathlib.Core.Bool.{Bool, true, false}
use mathlib.Core.List.{List, [], ◌∷◌, ◌++◌, map-append}
use Rattle.std.specs.Option.{is_some}
use Rattle.std.specs.Prelude.{Option, Some}
use Rattle.octets.specs.Choice.{pick, both, either, flip}
use Rattle.octets.specs.Same.{same_bytes}
use Rattle.octets.proofs.ChoiceLaws.{both_none, both_left, both_right, either_left, either_right, either_false, flip_true}
use Rattle.octets.proofs.SameLaws.{same_sym}
use Rattle.book.specs.declared.Entry.{Entry}
use Rattle.octets.specs.Part.{bytes_at}
use Rattle.book.specs.Entries.{entry_key, entry_at, end_of, entries_from, end_from}
use Rattle.book.specs.Whole.{among, distinct, keys_of}
use Rattle.book.specs.Search.{first_match}
use Rattle.book.specs.Bounds.{EntryIs}
use Rattle.book.proofs.LayoutLaws.{end_more, entries_more, entries_around}

-- a search finds an entry where its key is among the keys
pub found_among : (book key : List ℕ) (es : List Entry) → is_some (first_match book key es) ≡ among key (keys_of book es)
unfolding first_match among
found_among book key [] = refl
found_among book key (e ∷ es) = go (same_bytes (entry_key book e) key) (first_match book key es) (among key (keys_of book es)) (found_among book key es)
  where
    go : (b : Bool) (f : Option Entry) (t : Bool) → is_some f ≡ t → is_some (pick b (Some e) f) ≡ either b t
    go true f t q = refl
    go false f t q = q

-- among two lists
pub among_append : (k : List ℕ) (xs ys : List (List ℕ)) → among k (xs ++ ys) ≡ either (among k xs) (among k ys)
unfolding among
among_append k [] ys = refl
among_append k (x ∷ xs) ys = rw (among_append k xs ys) (go (same_bytes x k))
  where
    go : (b : Bool) → either b (either (among k xs) (among k ys)) ≡ either (either b (among k xs)) (among k ys)
    go true = refl
    go false = refl

-- a key that is among those before it
pub repeated : (k : List ℕ) (xs ys : List (List ℕ)) → among k xs ≡ true → distinct (xs ++ (k ∷ ys)) ≡ false
unfolding among distinct
repeated k [] ys h = cc
repeated k (x ∷ xs) ys h = go (same_bytes x k) refl (repeated k xs ys)
  where
    -- x is k, which stands among the rest
    hit : same_bytes x k ≡ true → among x (xs ++ (k ∷ ys)) ≡ true
    hit q = among_append x xs (k ∷ ys) ∙ either_right (among x xs) _ (either_left _ (among x ys) (same_sym k x ∙ q))

    go : (b : Bool) → same_bytes x k ≡ b → (among k xs ≡ true → distinct (xs ++ (k ∷ ys)) ≡ false)
        → both (flip (among x (xs ++ (k ∷ ys)))) (distinct (xs ++ (k ∷ ys))) ≡ false
    go true q later = rw (hit q)
    go false q later = rw (later (rw q at h)) (both_none (flip (among x (xs ++ (k ∷ ys)))))

-- a key that is not
pub fresh : (k : List ℕ) (xs : List (List ℕ)) → distinct xs ≡ true → among k xs ≡ false → distinct (xs ++ (k ∷ [])) ≡ true
unfolding among distinct
fresh k [] d h = refl
fresh k (x ∷ xs) d h =
    let p = either_false (same_bytes x k) (among k xs) h in
    let a = flip_true (among x xs) (both_left _ (distinct xs) d) in
    rw (among_append x xs (k ∷ []), a, same_sym k x, p.0, fresh k xs (both_right (flip (among x xs)) _ d) p.1)

-- the keys of the first few entries of a section
module _ (counted : Bool) (book : List ℕ) (start : ℕ) where
  abbrev pub keys : ℕ → List (List ℕ)
  keys n = keys_of book (entries_from counted book start n)

  abbrev pub entry : ℕ → Entry
  entry i = entry_at counted book (end_from counted book start i)

  -- the i-th key is among those before it
  pub repeats : (i n : ℕ) → i < n → among (entry_key book (entry i)) (keys i) ≡ true → distinct (keys n) ≡ false
  repeats i n h q = rw (entries_around counted book start i n h, map-append) (repeated (entry_key book (entry i)) (keys i) _ q)

  -- or not
  pub no_repeat : (i : ℕ) → distinct (keys i) ≡ true → among (entry_key book (entry i)) (keys i) ≡ false → distinct (keys (i + 1)) ≡ true
  no_repeat i d q = rw (entries_more counted book start i, map-append) (fresh (entry_key book (entry i)) (keys i) d q)

  -- the first i entries are passed: the code stands at the next, and their keys differ
  pub record Passed (at i : ℕ) : Type 0 where
    pub is : at ≡ end_from counted book start i
    pub near : at ≤ start + 512 * i
    pub differ : distinct (keys i) ≡ true

  -- none yet
  pub passed_none : Passed start 0
  unfolding end_from entries_from distinct
  passed_none = record { is = refl; near = omega arith; differ = refl }

  -- the code's test of the next entry's key against those before it
  module _ (at i : ℕ) (e : Entry) (own : List ℕ) (t : Bool) (p : Passed at i) (m : EntryIs (entry_at counted book at) (at + 512) e)
      (k : own ≡ bytes_at book e.key) (a : t ≡ among own (keys i)) where
    told : {b : Bool} → t ≡ b → among (entry_key book (entry i)) (keys i) ≡ b
    unfolding entry_key
    told q = rw (← p.is, ← m.is, ← k) (sym a ∙ q)

    pub pass_not : (n : ℕ) → i < n → t ≡ true → distinct (keys n) ≡ false
    pass_not n h q = repeats i n h (told q)

    pub pass : t ≡ false → Passed (end_of e) (i + 1)
    pass q = record {
      is = ap end_of (m.is ∙ ap (entry_at counted book) p.is) ∙ sym (end_more counted book start i);
      near = omega (arith, m.ends, p.near);
      differ = no_repeat i p.differ (told q);
    }

  -- all are passed
  pub all_differ : (at i n : ℕ) → Passed at i → i ≤ n → n ≤ i → distinct (keys n) ≡ true
  all_differ at i n p h g = let z : n ≡ i = omega arith in rw z p.differ
