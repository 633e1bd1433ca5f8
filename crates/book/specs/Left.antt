-- The iterator over a section's entries: what is left of the section, and what a step of it takes. Offsets stay small, since a count has two bytes (DECISIONS, 62).
use Rattle.std.specs.Prelude.{ℕ, ◌+◌, ◌*◌, ◌≤◌, ◌<◌, ◌≡◌, List, Option, MatchOption}
use Rattle.book.specs.declared.Entry.{Entry}
use Rattle.book.specs.declared.Section.{Section}
use Rattle.book.specs.declared.entries.Entries.{Entries}
use Rattle.book.specs.Entries.{entry_at, end_of, entries_in, end_in}
use Rattle.book.specs.Whole.{keys_of}

-- the entries that are left
abbrev pub entries_left : Entries → List Entry
entries_left s = entries_in s.book.now s.section

-- and their keys
abbrev pub keys_left : Entries → List (List ℕ)
keys_left s = keys_of s.book.now (entries_left s)

-- a step that gave an entry: the next one starts where it ends, by 512 bytes further on
pub record Stepped (s : Entries) (e : Entry) (t : Entries) : Type 0 where
  pub book : t.book.now ≡ s.book.now
  pub is : e ≡ entry_at s.section.counted s.book.now s.section.at
  pub counted : t.section.counted ≡ s.section.counted
  pub at : t.section.at ≡ end_of e
  pub count : s.section.count ≡ t.section.count + 1
  pub near : t.section.at ≤ s.section.at + 512

-- one that gave none
pub record Ended (s t : Entries) : Type 0 where
  pub book : t.book.now ≡ s.book.now
  pub section : t.section ≡ s.section
  pub none : s.section.count ≡ 0

-- a call of `next`
abbrev pub GivesEntry : Entries → Option Entry → Entries → Type 0
GivesEntry s r t = MatchOption r (Ended s t) (λ e. Stepped s e t)

-- a section as it should be, which starts by a limit
pub record SectionIs (book : List ℕ) (right : Section) (limit : ℕ) (s : Entries) : Type 0 where
  pub of : s.book.now ≡ book
  pub is : s.section ≡ right
  pub starts : s.section.at ≤ limit
  pub counts : s.section.count < 65536

-- where a section ends, and by which limit
pub record EndIs (s : Entries) (at : ℕ) : Type 0 where
  pub is : at ≡ end_in s.book.now s.section
  pub ends : at ≤ s.section.at + 512 * s.section.count
