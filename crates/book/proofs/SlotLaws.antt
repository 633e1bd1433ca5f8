-- The slots hold the entries that were passed, each where a search for its key finds it.
use Prim.Native.Nat.{ℕ, zero, suc, ◌+◌, ◌*◌, ◌^◌, ◌%◌, ◌<◌, ◌≤◌}
use native.Mathlib.Nat.{mul_comm, mul-lt-mul_of_pos_right, div-lt_iff_lt-mul}
use native.Mathlib.Numerals.{add-one}
use native.Mathlib.Omega.{arith}
use mathlib.Core.Path.{◌≡◌, refl, sym, ap, ◌∙◌}
use mathlib.Core.Bool.{Bool, true, false}
use mathlib.Core.List.{List, [], ◌∷◌, ◌++◌, map-append}
use lib.ListN.{length, drop, get_or, set, replicate, drop_of_length-le, length-set, length-replicate}
use lib.Seq.{drop-cons, get_or-set_same, get_or-set_other}
use lib.Dec.{ltb, eqb}
use borrow.Author.Tests.{eqb-false, ltb-true, ltb-false}
use Rattle.octets.specs.Choice.{either}
use Rattle.octets.specs.Same.{same_bytes}
use Rattle.octets.proofs.ChoiceLaws.{never, fails, pick_all, either_left, either_right}
use Rattle.octets.proofs.FittedLaws.{zeros_behind}
use Rattle.octets.proofs.SameLaws.{same_true, same_false, one_or_other}
use Rattle.book.specs.declared.Entry.{Entry}
use Rattle.book.specs.declared.repeats.Slot.{Slot}
use Rattle.book.specs.declared.repeats.Slot.TheVariants.{Free, Taken}
use Rattle.octets.specs.Part.{bytes_at}
use Rattle.book.specs.Entries.{entry_at, entry_key, entries_from, end_from}
use Rattle.book.specs.Whole.{among, distinct}
use Rattle.book.specs.Slots.{mixed, slot_of, next_of, slot_at, held_at, Passes, IsFree, IsTaken, Probed}
use Rattle.book.specs.Bounds.{Cleared}
use Rattle.book.proofs.LayoutLaws.{end_more, entries_more, entries_around}
use Rattle.book.specs.declared.entries.Entries.{Entries}
use Rattle.book.specs.Left.{keys_left, Stepped}
use Rattle.book.proofs.RepeatLaws.{keys, entry, among_append, repeats, no_repeat}
use Rattle.book.proofs.MatchLaws.{section_grows}

-- a key's number, byte by byte
pub mixed_step : (key : List ℕ) (h i : ℕ) → i < length key → mixed h (drop i key) ≡ mixed ((h + get_or key i 0) * 16777619 % 4294967296) (drop (i + 1) key)
unfolding mixed
mixed_step key h i p = rw (add-one i, drop-cons key i 0 p)

pub mixed_end : (key : List ℕ) (h i : ℕ) → length key ≤ i → mixed h (drop i key) ≡ h
unfolding mixed
mixed_end key h i p = rw (drop_of_length-le key p)

-- it fits 32 bits
mixed_small : (h : ℕ) (key : List ℕ) → h < 2 ^ 32 → mixed h key < 2 ^ 32
unfolding mixed
mixed_small h [] p = p
mixed_small h (b ∷ l) p = mixed_small ((h + b) * 16777619 % 4294967296) l (omega arith)

-- the slots that a search meets are among the n
slot_first : (n : ℕ) (key : List ℕ) → 0 < n → slot_of n key < n
unfolding slot_of
slot_first n key p =
    (div-lt_iff_lt-mul {k = 4294967296} (omega arith)).1 (rw (mul_comm n 4294967296) (mul-lt-mul_of_pos_right (mixed_small 0 key (omega arith)) p))

slot_within : (n : ℕ) (key : List ℕ) (d : ℕ) → 0 < n → slot_at n key d < n
unfolding slot_at
slot_within n key zero p = slot_first n key p
slot_within n key (suc d) p =
    let h : slot_at n key d < n = slot_within n key d p in
    pick_all (λ (x : ℕ). x < n) (eqb (slot_at n key d + 1) n) 0 (slot_at n key d + 1) (λ q. p) (λ q. omega (arith, eqb-false (slot_at n key d + 1) n q))

-- the code's look into the slot at a distance
module _ (slots key : List ℕ) (slot d : ℕ) (s : slot ≡ slot_at (length slots) key d) (i : d < length slots) where
  pub look_within : slot < length slots
  look_within = rw s (slot_within (length slots) key d (omega arith))

  pub look_next : next_of (length slots) slot ≡ slot_at (length slots) key (d + 1)
  unfolding slot_at
  look_next = rw (add-one d, s)

  module _ (counted : Bool) (book : List ℕ) (n : ℕ) (h : n ≡ get_or slots slot 0) where
    held_is : held_at counted book slots key d ≡ n
    held_is = rw (← s) (sym h)

    -- the slot is free, holds the key, or is passed
    pub free_here : n ≡ 0 → ((x : ℕ) → x < d → Passes counted book slots key x) → IsFree counted book slots key slot
    free_here z p = record { distance = d; near = i; is = s; empty = held_is ∙ z; passed = p }

    pub taken_here : (n ≡ 0 → ⊥) → same_bytes (entry_key book (entry_at counted book n)) key ≡ true → IsTaken counted book slots key
    taken_here z t = record { distance = d; some = λ q. z (sym held_is ∙ q); same = rw held_is t }

    pub passes_here : (n ≡ 0 → ⊥) → same_bytes (entry_key book (entry_at counted book n)) key ≡ false → Passes counted book slots key d
    passes_here z t = record { some = λ q. z (sym held_is ∙ q); other = rw held_is t }

-- a free slot is one of the slots
free_within : (counted : Bool) (book slots key : List ℕ) (s : ℕ) → IsFree counted book slots key s → s < length slots
free_within counted book slots key s f = rw f.is (slot_within (length slots) key f.distance (omega (arith, f.near)))

-- slots that are all free
pub cleared : (n : ℕ) → n ≤ 2 ^ 32 → Cleared (replicate n 0)
cleared n h = record { few = rw length-replicate h; free = λ k. zeros_behind [] n k }

-- a value that is not 0, stored in a slot
module _ (slots : List ℕ) (s v : ℕ) (i : s < length slots) (p : 1 ≤ v) where
  still_some : (k : ℕ) → (get_or slots k 0 ≡ 0 → ⊥) → get_or (set slots s v) k 0 ≡ 0 → ⊥
  still_some =
      one_or_other (λ (k : ℕ). (get_or slots k 0 ≡ 0 → ⊥) → get_or (set slots s v) k 0 ≡ 0 → ⊥) s
      (λ h. rw (get_or-set_same slots s v 0 i) (λ z. omega arith)) (λ k q h. rw (get_or-set_other slots s k v 0 q) h)

-- the entries of a section, by their number
module _ (counted : Bool) (book : List ℕ) (start : ℕ) where
  abbrev start_of : ℕ → ℕ
  start_of j = end_from counted book start j

  abbrev key_of : ℕ → List ℕ
  key_of j = entry_key book (entry counted book start j)

  -- the j-th key is among the first i
  among_at : (key : List ℕ) (i j : ℕ) → j < i → same_bytes (key_of j) key ≡ true → among key (keys counted book start i) ≡ true
  unfolding among
  among_at key i j h q =
      rw (entries_around counted book start j i h, map-append, among_append)
      (either_right (among key (keys counted book start j)) _ (either_left (same_bytes (key_of j) key) _ q))

  record Index (key : List ℕ) (i : ℕ) : Type 0 where
    pub j : ℕ
    pub earlier : j < i
    pub same : same_bytes (key_of j) key ≡ true

  -- a key among the first i is the j-th of them
  index_of : (key : List ℕ) (i : ℕ) → among key (keys counted book start i) ≡ true → Index key i
  unfolding among entries_from
  index_of key zero h = never cc
  index_of key (suc i) h = go (among key (keys counted book start i)) refl (index_of key i)
    where
      more : keys counted book start (suc i) ≡ keys counted book start i ++ (key_of i ∷ [])
      more = ap (keys counted book start) (sym (add-one i)) ∙ rw (entries_more counted book start i, map-append)

      split : either (among key (keys counted book start i)) (either (same_bytes (key_of i) key) false) ≡ true
      split = sym (among_append key (keys counted book start i) (key_of i ∷ [])) ∙ ap (among key) (sym more) ∙ h

      last : (t : Bool) → either false (either t false) ≡ true → t ≡ true
      last true q = refl
      last false q = q

      go : (t : Bool) → among key (keys counted book start i) ≡ t → (among key (keys counted book start i) ≡ true → Index key i) → Index key (suc i)
      go true q below = let x = below q in record { j = x.j; earlier = omega (arith, x.earlier); same = x.same }
      go false q below = record { j = i; earlier = omega arith; same = last (same_bytes (key_of i) key) (rw q at split) }

  -- the j-th entry lies where a search for its key finds it
  pub record Lies (slots : List ℕ) (j : ℕ) : Type 0 where
    pub distance : ℕ
    pub there : get_or slots (slot_at (length slots) (key_of j) distance) 0 ≡ start_of j
    pub some : (x : ℕ) → x ≤ distance → get_or slots (slot_at (length slots) (key_of j) x) 0 ≡ 0 → ⊥

  -- a slot's number is where one of the first i entries starts
  pub record Starts (i n : ℕ) : Type 0 where
    pub j : ℕ
    pub earlier : j < i
    pub is : n ≡ start_of j

  -- the slots hold the first i entries and nothing else
  pub record Kept (slots : List ℕ) (i : ℕ) : Type 0 where
    pub held : (k : ℕ) → (get_or slots k 0 ≡ 0 → ⊥) → Starts i (get_or slots k 0)
    pub kept : (j : ℕ) → j < i → Lies slots j

  -- no entry yet
  pub kept_none : (slots : List ℕ) → Cleared slots → Kept slots 0
  kept_none slots c = record { held = λ k h. absurd (h (c.free k)); kept = λ j h. absurd (omega arith) }

  module _ (slots key : List ℕ) (i : ℕ) (w : Kept slots i) where
    -- a key that is found is among the first i
    pub found_taken : IsTaken counted book slots key → among key (keys counted book start i) ≡ true
    found_taken t =
        let x = w.held (slot_at (length slots) key t.distance) t.some in
        among_at key i x.j x.earlier (rw (← x.is) t.same)

    -- a key whose search ends at a free slot is not
    pub found_free : (s : ℕ) → IsFree counted book slots key s → among key (keys counted book start i) ≡ false
    found_free s f =
        fails (among key (keys counted book start i)) λ q.
        let x = index_of key i q in
        never x.j (w.kept x.j x.earlier) (same_true (key_of x.j) key x.same)
      where
        -- an entry with that key would lie before the free slot, where others stand, or past it, where the search would have met it
        never : (j : ℕ) → Lies slots j → key_of j ≡ key → ⊥
        never j l q = by (ltb l.distance f.distance) refl
          where
            by : (t : Bool) → ltb l.distance f.distance ≡ t → ⊥
            by true b =
                let h : get_or slots (slot_at (length slots) key l.distance) 0 ≡ start_of j = rw q at l.there in
                same_false (key_of j) key (rw h at (f.passed l.distance (ltb-true l.distance f.distance b)).other) q
            by false b = l.some f.distance (ltb-false l.distance f.distance b) (rw q f.empty)

  -- an entry more: it goes into the free slot that a search for its key ends at
  module _ (past : 1 ≤ start) (slots : List ℕ) (i s : ℕ) (w : Kept slots i) (f : IsFree counted book slots (key_of i) s) where
    some_start : 1 ≤ start_of i
    some_start = omega (arith, section_grows counted book start i)

    in_range_law : s < length slots
    in_range_law = free_within counted book slots (key_of i) s f

    empty : get_or slots s 0 ≡ 0
    empty = rw f.is f.empty

    abbrev after : List ℕ
    after = set slots s (start_of i)

    -- those before it lie where they lay
    stays : (j : ℕ) → Lies slots j → Lies after j
    stays j l = record {
      distance = l.distance;
      there = rw length-set (get_or-set_other slots s (slot_at (length slots) (key_of j) l.distance) (start_of i) 0 (λ q. l.some l.distance (omega arith) (rw q empty)) ∙ l.there);
      some = λ x h. rw length-set (still_some slots s (start_of i) in_range_law some_start (slot_at (length slots) (key_of j) x) (l.some x h));
    }

    -- it lies in that slot
    comes : Lies after i
    comes = record {
      distance = f.distance;
      there = rw (length-set, ← f.is) (get_or-set_same slots s (start_of i) 0 in_range_law);
      some = λ x h. rw length-set (by x h (ltb x f.distance) refl);
    }
      where
        by : (x : ℕ) → x ≤ f.distance → (t : Bool) → ltb x f.distance ≡ t → get_or after (slot_at (length slots) (key_of i) x) 0 ≡ 0 → ⊥
        by x h true b = still_some slots s (start_of i) in_range_law some_start (slot_at (length slots) (key_of i) x) (f.passed x (ltb-true x f.distance b)).some
        by x h false b =
            let z : x ≡ f.distance = omega (arith, ltb-false x f.distance b) in
            let v : 1 ≤ start_of i = some_start in
            rw (z, ← f.is, get_or-set_same slots s (start_of i) 0 in_range_law) (λ q. omega arith)

    -- what a slot holds then
    holds : (k : ℕ) → (get_or after k 0 ≡ 0 → ⊥) → Starts (i + 1) (get_or after k 0)
    holds =
        one_or_other (λ (k : ℕ). (get_or after k 0 ≡ 0 → ⊥) → Starts (i + 1) (get_or after k 0)) s
        (λ h. record { j = i; earlier = omega arith; is = get_or-set_same slots s (start_of i) 0 in_range_law })
        (λ k q h.
        let o = get_or-set_other slots s k (start_of i) 0 q in
        let x = w.held k (λ z. h (o ∙ z)) in
        record { j = x.j; earlier = omega (arith, x.earlier); is = o ∙ x.is })

    -- they hold one more
    pub kept_more : Kept after (i + 1)
    kept_more = record {
      held = holds;
      kept = one_or_other (λ (j : ℕ). j < i + 1 → Lies after j) i (λ h. comes) (λ j q h. stays j (w.kept j (omega arith)));
    }

-- the code's walk over a section
module _ (s : Entries) where
  abbrev key_at_turn : ℕ → List ℕ
  key_at_turn i = entry_key s.book.now (entry s.section.counted s.book.now s.section.at i)

  -- all entries but those that are left are kept in the slots, and their keys differ
  pub record Placed (t : Entries) (slots : List ℕ) : Type 0 where
    pub i : ℕ
    pub all : i + t.section.count ≡ s.section.count
    pub book : t.book.now ≡ s.book.now
    pub counted : t.section.counted ≡ s.section.counted
    pub at : t.section.at ≡ end_from s.section.counted s.book.now s.section.at i
    pub differ : distinct (keys s.section.counted s.book.now s.section.at i) ≡ true
    pub kept : Kept s.section.counted s.book.now s.section.at slots i

  -- none yet
  pub placed_none : (slots : List ℕ) → Cleared slots → Placed s slots
  unfolding end_from entries_from distinct
  placed_none slots c = record {
    i = 0;
    all = omega arith;
    book = refl;
    counted = refl;
    at = refl;
    differ = refl;
    kept = kept_none s.section.counted s.book.now s.section.at slots c;
  }

  -- the next, by what the search of the slots for its key gave
  module _ {t u : Entries} {e : Entry} {own slots : List ℕ} (p : Placed t slots) (w : Stepped t e u) (k : own ≡ bytes_at s.book.now e.key) where
    own_key : own ≡ key_at_turn p.i
    unfolding entry_key
    own_key = rw (k, w.is, p.counted, p.book, p.at)

    -- it repeats one before it
    pub turn_taken : {r : Slot} → Probed s.section.counted s.book.now slots own r → r ≡ Taken → distinct (keys_left s) ≡ false
    turn_taken o q =
        repeats s.section.counted s.book.now s.section.at p.i s.section.count (omega (arith, p.all, w.count))
        (rw own_key at (found_taken s.section.counted s.book.now s.section.at slots own p.i p.kept (rw q at o)))

    -- or it is stored
    pub turn_within : {r : Slot} → Probed s.section.counted s.book.now slots own r → {x : ℕ} → r ≡ Free x → x < length slots
    turn_within o {x} q = free_within s.section.counted s.book.now slots own x (rw q at o)

    pub turn_free : {r : Slot} → Probed s.section.counted s.book.now slots own r → {x : ℕ} → r ≡ Free x → Placed u (set slots x t.section.at)
    turn_free o {x} q =
        let f : IsFree s.section.counted s.book.now slots own x = rw q at o in
        let g : IsFree s.section.counted s.book.now slots (key_at_turn p.i) x = rw own_key at f in
        record {
          i = p.i + 1;
          all = omega (arith, p.all, w.count);
          book = w.book ∙ p.book;
          counted = w.counted ∙ p.counted;
          at = rw (w.at, w.is, p.counted, p.book, p.at) (sym (end_more s.section.counted s.book.now s.section.at p.i));
          differ = no_repeat s.section.counted s.book.now s.section.at p.i p.differ (found_free s.section.counted s.book.now s.section.at slots (key_at_turn p.i) p.i p.kept x g);
          kept = rw p.at (kept_more s.section.counted s.book.now s.section.at s.past slots p.i x p.kept g);
        }
