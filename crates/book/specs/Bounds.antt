-- What the code's sums need beside the definitions: an entry has at most 512 bytes; and slots that are free, of which there are not too many (DECISIONS, 62).
use Rattle.std.specs.Prelude.{ℕ, ◌^◌, ◌≤◌, ◌≡◌, List, length, slice_index}
use Rattle.book.specs.declared.Entry.{Entry}
use Rattle.book.specs.Entries.{end_of}

-- an entry as it should be, which ends by a limit
pub record EntryIs (right : Entry) (limit : ℕ) (e : Entry) : Type 0 where
  pub is : e ≡ right
  pub ends : end_of e ≤ limit

-- slots that are all free, and not so many that their number times one of 32 bits is more than 64 bits hold
pub record Cleared (slots : List ℕ) : Type 0 where
  pub few : length slots ≤ 2 ^ 32
  pub free : (k : ℕ) → slice_index slots k ≡ 0
