-- A walk over a section: offsets stay near, and what is asked of the section is asked of what is left.
use Prim.Native.Nat.{ℕ, ◌+◌, ◌-◌, ◌*◌, ◌<◌, ◌≤◌}
use native.Mathlib.Omega.{arith}
use mathlib.Core.Path.{◌≡◌, refl, sym, ap, ◌∙◌}
use mathlib.Core.Bool.{Bool, true, false}
use mathlib.Core.List.{List}
use Rattle.std.specs.Prelude.{Option, Some, None}
use Rattle.octets.specs.Choice.{pick, both, every}
use Rattle.octets.specs.Same.{same_bytes}
use Rattle.book.specs.declared.Entry.{Entry}
use Rattle.book.specs.Entries.{entry_at, end_of, entry_key, entries_from, end_from}
use Rattle.book.specs.Whole.{entry_fits}
use Rattle.book.specs.Search.{first_match}
use Rattle.book.specs.Bounds.{EntryIs}
use Rattle.book.proofs.LayoutLaws.{none_left, one_left}

-- a section of n entries from an offset on, of which `left` are left from `at` on; `is` says that what is asked of both is the same
pub record Walked {A : Type 0} (ask : ℕ → ℕ → A) (first n at left : ℕ) : Type 0 where
  pub near : at + 512 * left ≤ first + 512 * n
  pub is : ask first n ≡ ask at left

-- nothing walked yet
pub start : {A : Type 0} (ask : ℕ → ℕ → A) (first n : ℕ) → Walked ask first n first n
start ask first n = record { near = omega arith; is = refl }

-- one entry further, where that entry does not settle the answer
pub onward : {A : Type 0} (ask : ℕ → ℕ → A) (counted : Bool) (book : List ℕ) (first n at left : ℕ) (e : Entry)
    → Walked ask first n at left → 0 < left → EntryIs (entry_at counted book at) (at + 512) e
    → ask at left ≡ ask (end_of (entry_at counted book at)) (left - 1) → Walked ask first n (end_of e) (left - 1)
onward ask counted book first n at left e w h m q =
    record { near = omega (arith, w.near, m.ends); is = w.is ∙ q ∙ ap (λ (x : Entry). ask (end_of x) (left - 1)) (sym m.is) }

module _ (counted : Bool) (book : List ℕ) where
  -- the offset where the section ends
  abbrev pub ends : ℕ → ℕ → ℕ
  ends at n = end_from counted book at n

  -- all its lengths fit
  abbrev pub fits : ℕ → ℕ → Bool
  fits at n = every entry_fits (entries_from counted book at n)

  -- no entry left, one that fits, one that does not
  pub fits_none : (at n : ℕ) → n ≤ 0 → fits at n ≡ true
  unfolding every
  fits_none at n h = ap (every entry_fits) (none_left counted book at n h)

  pub fits_step : (at n : ℕ) → 0 < n → fits at n ≡ both (entry_fits (entry_at counted book at)) (fits (end_of (entry_at counted book at)) (n - 1))
  unfolding every
  fits_step at n h = ap (every entry_fits) (one_left counted book at n h)

  pub fits_on : (at n : ℕ) → 0 < n → entry_fits (entry_at counted book at) ≡ true → fits at n ≡ fits (end_of (entry_at counted book at)) (n - 1)
  fits_on at n h q = fits_step at n h ∙ rw q

  pub fits_not : (at n : ℕ) → 0 < n → entry_fits (entry_at counted book at) ≡ false → fits at n ≡ false
  fits_not at n h q = fits_step at n h ∙ rw q

  -- its first entry with a key
  module _ (key : List ℕ) where
    abbrev pub finds : ℕ → ℕ → Option Entry
    finds at n = first_match book key (entries_from counted book at n)

    -- no entry left, one with another key
    pub finds_none : (at n : ℕ) → n ≤ 0 → finds at n ≡ None
    unfolding first_match
    finds_none at n h = ap (first_match book key) (none_left counted book at n h)

    pub finds_step : (at n : ℕ) → 0 < n
        → finds at n ≡ pick (same_bytes (entry_key book (entry_at counted book at)) key) (Some (entry_at counted book at)) (finds (end_of (entry_at counted book at)) (n - 1))
    unfolding first_match
    finds_step at n h = ap (first_match book key) (one_left counted book at n h)

    pub finds_on : (at n : ℕ) → 0 < n → same_bytes (entry_key book (entry_at counted book at)) key ≡ false → finds at n ≡ finds (end_of (entry_at counted book at)) (n - 1)
    finds_on at n h q = finds_step at n h ∙ rw q

    -- one with that key
    pub finds_here : (at n : ℕ) → 0 < n → same_bytes (entry_key book (entry_at counted book at)) key ≡ true → finds at n ≡ Some (entry_at counted book at)
    finds_here at n h q = finds_step at n h ∙ rw q
