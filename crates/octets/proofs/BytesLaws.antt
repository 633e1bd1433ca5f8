-- Lists whose every element is a byte.
use Prim.Native.Nat.{ℕ, zero, suc, ◌+◌, ◌<◌}
use mathlib.Core.List.{List, [], ◌∷◌}
use lib.Dec.{lit<}
use lib.ListN.{get_or, take, drop}
use lib.Seq.{get_or-drop}
use mir.Syntax.{w8}
use mir.Val.{Fits}
use Rattle.octets.specs.Numbers.{Bytes}

-- what a proof is told of a slice's elements
pub bytes_known : (l : List ℕ) → ((i : ℕ) → Fits w8 (get_or l i 0)) → Bytes l
bytes_known l h = record { small = λ i. (h i).fits }

-- no byte, one more; the first of them, and those after it
pub bytes_none : Bytes []
bytes_none = record { small = λ i. lit< tt }

pub bytes_cons : {b : ℕ} {l : List ℕ} → b < 256 → Bytes l → Bytes (b ∷ l)
bytes_cons {b} {l} p h = record { small = at }
  where
    at : (i : ℕ) → get_or (b ∷ l) i 0 < 256
    at zero = p
    at (suc i) = h.small i

pub bytes_head : {b : ℕ} {l : List ℕ} → Bytes (b ∷ l) → b < 256
bytes_head h = h.small 0

pub bytes_tail : {b : ℕ} {l : List ℕ} → Bytes (b ∷ l) → Bytes l
bytes_tail h = record { small = λ i. h.small (suc i) }

-- the first n of them, and those past n
pub bytes_take : (n : ℕ) (l : List ℕ) → Bytes l → Bytes (take n l)
bytes_take zero l h = bytes_none
bytes_take (suc n) [] h = bytes_none
bytes_take (suc n) (x ∷ l) h = bytes_cons (bytes_head h) (bytes_take n l (bytes_tail h))

pub bytes_drop : (n : ℕ) (l : List ℕ) → Bytes l → Bytes (drop n l)
bytes_drop n l h = record { small = λ i. rw get_or-drop (h.small (n + i)) }

-- a part of bytes is bytes
pub part_bytes : (k at : ℕ) (l : List ℕ) → Bytes l → Bytes (take k (drop at l))
part_bytes k at l h = bytes_take k (drop at l) (bytes_drop at l h)
