-- The objects that a message is written of, as bytes.
use Rattle.std.specs.Prelude.{ℕ, ◌+◌, ◌≡◌, List, [], ◌∷◌, ◌++◌, length, take, drop}
use Rattle.octets.specs.Numbers.{bytes_of}
use Rattle.octets.specs.Put.{put}
use Rattle.message.specs.declared.writing.Object.{Object}
use Rattle.message.specs.declared.writing.Object.TheVariants.{Bytes, Number, Missing, Run}
use Rattle.message.specs.Writing.{object_bytes}

-- one object with a value, one with a number, none, or objects as they stand
abbrev pub laid : Object → List ℕ
laid (Bytes t v) = object_bytes t v.now
laid (Number t size n) = object_bytes t (bytes_of size n)
laid Missing = []
laid (Run v) = v.now

-- one after the other
unfoldable pub laid_all : List Object → List ℕ
laid_all [] = []
laid_all (o ∷ os) = laid o ++ laid_all os

-- n objects from a place of the list on, or as many as there are, put at an offset, and where they end
pub record Lays (os : List Object) (i n : ℕ) (before : List ℕ) (at : ℕ) (after : List ℕ) (r : ℕ) : Type 0 where
  pub end : r ≡ at + length (laid_all (take n (drop i os)))
  pub left : after ≡ put before at (laid_all (take n (drop i os)))
