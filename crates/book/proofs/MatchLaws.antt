-- Entries of a list: which of them matches, and what holds of each.
use Prim.Native.Nat.{ℕ, zero, suc, ◌+◌, ◌<◌, ◌≤◌}
use native.Mathlib.Omega.{arith}
use native.Mathlib.Nat.{lt_of_not-le}
use mathlib.Core.Path.{◌≡◌, refl, sym, ◌∙◌}
use mathlib.Core.Bool.{Bool, true, false, cond, ◌&&◌}
use mathlib.Core.Logic.{⊎_elim}
use mathlib.Core.List.Memᴰ
use mathlib.Core.List.{List, [], ◌∷◌, Memᴰ}
use lib.ListN.{length, get_or, get_or-eq_default}
use lib.Dec.{leb}
use borrow.Author.Tests.{leb-true}
use Rattle.std.specs.Option.{is_some}
use Rattle.std.specs.Prelude.{Option, Some, None}
use Rattle.std.specs.List.{find, list_all}
use Rattle.octets.specs.Choice.{pick, both, flip, every}
use Rattle.octets.specs.Same.{same_bytes}
use Rattle.octets.proofs.ChoiceLaws.{never, not_both, both_left, both_right, either_left, either_right, flip_true}
use Rattle.octets.proofs.SameLaws.{same_true, true_same, false_same}
use Rattle.book.specs.declared.Entry.{Entry}
use Rattle.book.specs.Entries.{entry_of, entry_at, end_of, entry_key, entries_from, end_from}
use Rattle.book.specs.Whole.{length_fits, entry_fits, among, distinct, keys_of}
use Rattle.book.specs.Search.{first_match}
use Rattle.book.proofs.LayoutLaws.{entries_around}

module _ (book : List ℕ) where
  -- what a search finds is an entry of the list, and matches
  pub found_in : (key : List ℕ) (es : List Entry) (e : Entry) → first_match book key es ≡ Some e → Memᴰ e es × (entry_key book e ≡ key)
  unfolding first_match
  found_in key [] e q = never cc
  found_in key (x ∷ es) e q = go (same_bytes (entry_key book x) key) refl q (found_in key es e)
    where
      go : (t : Bool) → same_bytes (entry_key book x) key ≡ t → pick t (Some x) (first_match book key es) ≡ Some e
          → (first_match book key es ≡ Some e → Memᴰ e es × (entry_key book e ≡ key)) → Memᴰ e (x ∷ es) × (entry_key book e ≡ key)
      go true s h rest = let z : e ≡ x = cc in (Memᴰ.head z, rw z (same_true (entry_key book x) key s))
      go false s h rest = let r = rest h in (Memᴰ.tail r.0, r.1)

  -- an entry's key is among the keys
  pub key_among : (key : List ℕ) (es : List Entry) (e : Entry) → Memᴰ e es → entry_key book e ≡ key → among key (keys_of book es) ≡ true
  unfolding among
  key_among key [] e m k = absurd (Memᴰ.not-nil m)
  key_among key (x ∷ es) e m k =
      ⊎_elim
      (λ q. either_left (same_bytes (entry_key book x) key) (among key (keys_of book es)) (true_same (entry_key book x) key (rw q at k)))
      (λ r. either_right (same_bytes (entry_key book x) key) (among key (keys_of book es)) (key_among key es e r k))
      (Memᴰ.cases_cons m)

  -- where keys differ, the entry that matches is the one found
  pub only_match : (key : List ℕ) (es : List Entry) (e : Entry) → distinct (keys_of book es) ≡ true → Memᴰ e es → entry_key book e ≡ key → first_match book key es ≡ Some e
  unfolding first_match distinct
  only_match key [] e d m k = absurd (Memᴰ.not-nil m)
  only_match key (x ∷ es) e d m k = ⊎_elim first (λ r. rw (other r) (only_match key es e (both_right (flip (among (entry_key book x) (keys_of book es))) _ d) r k)) (Memᴰ.cases_cons m)
    where
      first : e ≡ x → pick (same_bytes (entry_key book x) key) (Some x) (first_match book key es) ≡ Some e
      first q = rw (true_same (entry_key book x) key (rw q at k), q)

      -- x matches not, since its key is not among the rest, where that of e is
      other : Memᴰ e es → same_bytes (entry_key book x) key ≡ false
      other r =
          false_same (entry_key book x) key λ q.
          not_both (key_among (entry_key book x) es e r (k ∙ sym q))
          (flip_true (among (entry_key book x) (keys_of book es)) (both_left _ (distinct (keys_of book es)) d))

-- none matches
pub none_found : (f : Option Entry) → is_some f ≡ false → f ≡ None
none_found (Some e) q = cc
none_found None q = refl

-- the library's words
pub find_first : (book key : List ℕ) (es : List Entry) → find (λ e. same_bytes (entry_key book e) key) es ≡ first_match book key es
unfolding first_match
find_first book key [] = refl
find_first book key (e ∷ es) = rw (find_first book key es) (go (same_bytes (entry_key book e) key))
  where
    go : (b : Bool) → cond b (Some e) (first_match book key es) ≡ pick b (Some e) (first_match book key es)
    go true = refl
    go false = refl

pub all_every : {A : Type 0} (test : A → Bool) (xs : List A) → list_all test xs ≡ every test xs
unfolding every
all_every test [] = refl
all_every test (x ∷ xs) = rw (all_every test xs) (go (test x))
  where
    go : (b : Bool) → (b && every test xs) ≡ both b (every test xs)
    go true = refl
    go false = refl

-- lengths that fit, of each entry
pub each_fits : (es : List Entry) (e : Entry) → every entry_fits es ≡ true → Memᴰ e es → entry_fits e ≡ true
unfolding every
each_fits [] e a m = absurd (Memᴰ.not-nil m)
each_fits (x ∷ es) e a m =
    ⊎_elim (λ q. rw q (both_left (entry_fits x) (every entry_fits es) a)) (each_fits es e (both_right (entry_fits x) (every entry_fits es) a)) (Memᴰ.cases_cons m)

module _ (counted : Bool) (book : List ℕ) where
  -- an entry ends past its start, and a section past that of its entries
  pub entry_grows : (at : ℕ) → at ≤ end_of (entry_at counted book at)
  unfolding entry_at entry_of
  entry_grows at = go counted
    where
      go : (b : Bool) → at ≤ end_of (pick b (entry_of book (at + 1) (get_or book at 0)) (entry_of book at 4))
      go true = omega arith
      go false = omega arith

  pub section_grows : (at n : ℕ) → at ≤ end_from counted book at n
  unfolding end_from
  section_grows at zero = omega arith
  section_grows at (suc n) = omega (arith, entry_grows at, section_grows (end_of (entry_at counted book at)) n)

  -- each entry ends within its section
  pub each_within : (at n : ℕ) (e : Entry) → Memᴰ e (entries_from counted book at n) → end_of e ≤ end_from counted book at n
  unfolding entries_from end_from
  each_within at zero e m = absurd (Memᴰ.not-nil m)
  each_within at (suc n) e m =
      ⊎_elim (λ q. rw q (section_grows (end_of (entry_at counted book at)) n)) (each_within (end_of (entry_at counted book at)) n e) (Memᴰ.cases_cons m)

-- a router's key has 4 bytes, which stand before its value
pub each_address : (book : List ℕ) (at n : ℕ) (e : Entry) → Memᴰ e (entries_from false book at n) → (e.key.len ≡ 4) × (e.key.at + 4 ≤ e.value.at)
unfolding entries_from entry_at entry_of
each_address book at zero e m = absurd (Memᴰ.not-nil m)
each_address book at (suc n) e m =
    ⊎_elim (λ q. rw q (refl, omega arith)) (each_address book (end_of (entry_at false book at)) n e) (Memᴰ.cases_cons m)

-- a byte that is not 0 stands within the book
some_within : (book : List ℕ) (k : ℕ) → 1 ≤ get_or book k 0 → k < length book
some_within book k h = lt_of_not-le λ past. let z : get_or book k 0 ≡ 0 = get_or-eq_default book 0 past in omega arith

-- an entry whose lengths fit starts within the book
fits_within : (counted : Bool) (book : List ℕ) (at : ℕ) → entry_fits (entry_at counted book at) ≡ true → at < length book
unfolding entry_fits entry_at entry_of
fits_within true book at f =
    let g = get_or book at 0 in
    let k : length_fits g ≡ true = both_left (length_fits g) (length_fits (get_or book (at + 1 + g) 0)) f in
    some_within book at (leb-true 1 g (both_left (leb 1 g) (leb g 253) k))
fits_within false book at f =
    let v = get_or book (at + 4) 0 in
    let h : at + 4 < length book = some_within book (at + 4) (leb-true 1 v (both_left (leb 1 v) (leb v 253) f)) in
    omega arith

-- the i-th of n entries whose lengths fit
ith_fits : (counted : Bool) (book : List ℕ) (at i n : ℕ) → every entry_fits (entries_from counted book at n) ≡ true → i < n
    → entry_fits (entry_at counted book (end_from counted book at i)) ≡ true
ith_fits counted book at i n a h =
    each_fits (entries_from counted book at n) _ a (rw (entries_around counted book at i n h) (Memᴰ.append_right (entries_from counted book at i) (Memᴰ.head refl)))

-- so the i-th starts within the book
pub starts_within : (counted : Bool) (book : List ℕ) (start i n at : ℕ) → every entry_fits (entries_from counted book start n) ≡ true → i < n → at ≡ end_from counted book start i
    → at < length book
starts_within counted book start i n at a h q = rw q (fits_within counted book (end_from counted book start i) (ith_fits counted book start i n a h))
