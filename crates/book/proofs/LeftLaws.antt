-- The iterator over a section's entries: what one step of it leaves.
use Prim.Native.Nat.{ℕ, ◌-◌}
use native.Mathlib.Omega.{arith}
use mathlib.Core.Path.{◌≡◌, sym, ap, ◌∙◌, subst}
use mathlib.Core.Bool.{Bool, true, false}
use mathlib.Core.List.{List, [], ◌∷◌}
use lib.ListN.{length}
use Rattle.std.proofs.lemmas.Iterator.{YieldsList}
use Rattle.std.proofs.lemmas.Iterator.Consumers.{YieldsList-from_shown}
use Rattle.book.specs.declared.Entry.{Entry}
use Rattle.book.specs.declared.entries.Entries.{Entries}
use Rattle.std.specs.Prelude.{Option, Some, None}
use Rattle.std.specs.Option.{is_some}
use Rattle.octets.specs.Same.{same_bytes}
use Rattle.octets.specs.Part.{bytes_at}
use Rattle.book.specs.Entries.{entry_key, end_in}
use Rattle.book.specs.Whole.{among, distinct}
use Rattle.book.specs.Search.{first_match}
use Rattle.book.specs.Left.{entries_left, keys_left, Stepped, Ended, GivesEntry}
use Rattle.book.proofs.LayoutLaws.{none_left, one_left, end_here, end_later}
use Rattle.book.proofs.RepeatLaws.{found_among}

-- none is left
pub ended_left : {s t : Entries} → Ended s t → entries_left s ≡ []
ended_left {s} w = none_left s.section.counted s.book.now s.section.at s.section.count (omega (arith, w.none))

pub ended_end : {s t : Entries} → Ended s t → end_in s.book.now s.section ≡ t.section.at
ended_end {s} {t} w = end_here s.section.counted s.book.now s.section.at s.section.count (omega (arith, w.none)) ∙ ap (λ x. x.at) (sym w.section)

-- the first, and those after it
pub stepped_left : {s t : Entries} {e : Entry} → Stepped s e t → entries_left s ≡ e ∷ entries_left t
stepped_left {s} {t} {e} w =
    let m : s.section.count - 1 ≡ t.section.count = omega (arith, w.count) in
    one_left s.section.counted s.book.now s.section.at s.section.count (omega (arith, w.count)) ∙ rw (← w.is, m, ← w.at, ← w.counted, ← w.book)

pub stepped_end : {s t : Entries} {e : Entry} → Stepped s e t → end_in s.book.now s.section ≡ end_in t.book.now t.section
stepped_end {s} {t} {e} w =
    let m : s.section.count - 1 ≡ t.section.count = omega (arith, w.count) in
    end_later s.section.counted s.book.now s.section.at s.section.count (omega (arith, w.count)) ∙ rw (← w.is, m, ← w.at, ← w.counted, ← w.book)

-- the entries that come are those that are left
pub entries_chain : {s : Entries} {es : List Entry} → entries_left s ≡ es → YieldsList GivesEntry (λ e. e) s es
entries_chain {s} q =
    subst (λ (es : List Entry). YieldsList GivesEntry (λ e. e) s es) q
    (YieldsList-from_shown GivesEntry (λ e. e) entries_left (λ t u h. ap length (ended_left h)) (λ t x u h. stepped_left h) s)

-- the code's test of an entry's key
pub tested : (book key : List ℕ) {e right : Entry} {own : List ℕ} {t b : Bool} → e ≡ right → own ≡ bytes_at book e.key → t ≡ same_bytes own key → t ≡ b
    → same_bytes (entry_key book right) key ≡ b
unfolding entry_key
tested book key p q r h = rw (← p, ← q, ← r) h

-- the search for a key: none is left, the first has it, or another
module _ (book key : List ℕ) where
  pub found_none : {s t : Entries} → Ended s t → first_match book key (entries_left s) ≡ None
  unfolding first_match
  found_none w = rw (ended_left w)

  pub found_here : {s t : Entries} {e : Entry} → Stepped s e t → same_bytes (entry_key book e) key ≡ true → first_match book key (entries_left s) ≡ Some e
  unfolding first_match
  found_here w q = rw (stepped_left w, q)

  pub found_on : {s t : Entries} {e : Entry} → Stepped s e t → same_bytes (entry_key book e) key ≡ false
      → first_match book key (entries_left s) ≡ first_match book key (entries_left t)
  unfolding first_match
  found_on w q = rw (stepped_left w, q)

-- keys that differ, where the first is among those after it, or not
keys_step : {s t : Entries} {e : Entry} → Stepped s e t → keys_left s ≡ entry_key s.book.now e ∷ keys_left t
keys_step w = rw (stepped_left w, w.book)

pub differ_none : {s t : Entries} → Ended s t → distinct (keys_left s) ≡ true
unfolding distinct
differ_none w = rw (ended_left w)

-- by the code's search for its key in what is left
module _ {s t : Entries} {e : Entry} {own : List ℕ} {o : Option Entry} {b : Bool} (w : Stepped s e t) (k : own ≡ bytes_at t.book.now e.key)
    (f : o ≡ first_match t.book.now own (entries_left t)) (q : b ≡ is_some o) where
  told : among (entry_key s.book.now e) (keys_left t) ≡ b
  unfolding entry_key
  told =
      ap (λ (l : List ℕ). among (bytes_at l e.key) (keys_left t)) (sym w.book)
      ∙ sym (found_among t.book.now (bytes_at t.book.now e.key) (entries_left t))
      ∙ rw (← k, ← f) (sym q)

  pub differ_not : b ≡ true → distinct (keys_left s) ≡ false
  unfolding distinct
  differ_not r = rw (keys_step w, told, r)

  pub differ_on : b ≡ false → distinct (keys_left s) ≡ distinct (keys_left t)
  unfolding distinct
  differ_on r = rw (keys_step w, told, r)
