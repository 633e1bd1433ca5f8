-- The slots by which repeats are found: a key's search starts at its own slot and goes on to the next, until a slot is free.
-- Nothing here says what a book is: it serves a test of Whole's `distinct` that is quicker than by pairs (DECISIONS, 46 and 62).
use Rattle.std.specs.Prelude.{ℕ, zero, suc, ◌+◌, ◌*◌, ◌/◌, ◌%◌, ◌<◌, ◌≡◌, Bool, true, false, List, [], ◌∷◌, length, slice_index, ◌==◌}
use Rattle.octets.specs.Choice.{pick}
use Rattle.octets.specs.Same.{same_bytes}
use Rattle.book.specs.declared.repeats.Slot.{Slot}
use Rattle.book.specs.declared.repeats.Slot.TheVariants.{Free, Taken, Full}
use Rattle.book.specs.Entries.{entry_at, entry_key}

-- a number of 32 bits that a key gives
unfoldable pub mixed : ℕ → List ℕ → ℕ
mixed h [] = h
mixed h (b ∷ l) = mixed ((h + b) * 16777619 % 4294967296) l

-- the slot at which the search for a key starts, of n slots: that number, scaled to them
unfoldable pub slot_of : ℕ → List ℕ → ℕ
slot_of n key = mixed 0 key * n / 4294967296

-- the slot after one of n slots; after the last comes the first
abbrev pub next_of : ℕ → ℕ → ℕ
next_of n slot = pick ((slot + 1) == n) 0 (slot + 1)

-- the slots that the search for a key meets, by how many come before
unfoldable pub slot_at : ℕ → List ℕ → ℕ → ℕ
slot_at n key zero = slot_of n key
slot_at n key (suc distance) = next_of n (slot_at n key distance)

module _ (counted : Bool) (book slots key : List ℕ) where
  -- what stands in the slot at a distance
  abbrev pub held_at : ℕ → ℕ
  held_at distance = slice_index slots (slot_at (length slots) key distance)

  -- the key of the entry that the slot at a distance holds
  abbrev pub key_at : ℕ → List ℕ
  key_at distance = entry_key book (entry_at counted book (held_at distance))

  -- a slot that the search passes: it holds an entry with another key
  pub record Passes (distance : ℕ) : Type 0 where
    pub some : held_at distance ≡ 0 → ⊥
    pub other : same_bytes (key_at distance) key ≡ false

  -- a slot at which a new key may be kept: free, and every one before it is passed
  pub record IsFree (slot : ℕ) : Type 0 where
    pub distance : ℕ
    pub near : distance < length slots
    pub is : slot ≡ slot_at (length slots) key distance
    pub empty : held_at distance ≡ 0
    pub passed : (x : ℕ) → x < distance → Passes x

  -- the key stands in the table already
  pub record IsTaken : Type 0 where
    pub distance : ℕ
    pub some : held_at distance ≡ 0 → ⊥
    pub same : same_bytes (key_at distance) key ≡ true

  -- what the search for a slot may answer; where the table is full it says nothing
  abbrev pub Probed : Slot → Type 0
  Probed (Free slot) = IsFree slot
  Probed Taken = IsTaken
  Probed Full = Unit {0}
