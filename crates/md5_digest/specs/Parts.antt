-- What the private functions are held to: rounds as rows of four operations, and the rest of a message with its padding (DECISIONS, 62).
use Rattle.std.specs.Prelude.{◌≡◌, ℕ, ◌+◌, ◌-◌, ◌*◌, ◌%◌, ◌≤◌, List, [], ◌∷◌, ◌++◌, length, take, drop, slice_index}
use Rattle.md5_digest.specs.declared.State.{State}
use Rattle.md5_digest.specs.declared.Auxiliary.{Auxiliary}
use Rattle.md5_digest.specs.declared.Auxiliary.TheVariants.{F, G, H, I}
use Rattle.md5_digest.specs.Md5.{Operation, operations_f, operations_g, operations_h, operations_i, sines, on_abcd, on_dabc, on_cdab, on_bcda, zeros_after, padding}

-- RFC 1321, 3.4: the operations of the round with the auxiliary function f
unfoldable pub operations_of : Auxiliary → List Operation
operations_of F = operations_f
operations_of G = operations_g
operations_of H = operations_h
operations_of I = operations_i

-- RFC 1321, 3.4: k of the one at i of them
unfoldable pub place_of : Auxiliary → ℕ → ℕ
place_of F i = i
place_of G i = (5 * i + 1) % 16
place_of H i = (3 * i + 5) % 16
place_of I i = 7 * i % 16

-- RFC 1321, 3.4: s of the first four of them, which the others repeat
unfoldable pub shifts_of : Auxiliary → List ℕ
shifts_of F = 7 ∷ 12 ∷ 17 ∷ 22 ∷ []
shifts_of G = 5 ∷ 9 ∷ 14 ∷ 20 ∷ []
shifts_of H = 4 ∷ 11 ∷ 16 ∷ 23 ∷ []
shifts_of I = 6 ∷ 10 ∷ 15 ∷ 21 ∷ []

-- RFC 1321, 3.4: T[i] of each of them
unfoldable pub sines_of : Auxiliary → List ℕ
sines_of F = take 16 sines
sines_of G = take 16 (drop 16 sines)
sines_of H = take 16 (drop 32 sines)
sines_of I = take 16 (drop 48 sines)

-- four operations of a round on the words x of a block, from the one at i on
unfoldable pub row_of : Auxiliary → List ℕ → ℕ → State → State
row_of f x i r =
    let s = shifts_of f in
    let t = sines_of f in
    on_bcda f (slice_index x (place_of f (i + 3))) (slice_index s 3) (slice_index t (i + 3))
    (on_cdab f (slice_index x (place_of f (i + 2))) (slice_index s 2) (slice_index t (i + 2))
    (on_dabc f (slice_index x (place_of f (i + 1))) (slice_index s 1) (slice_index t (i + 1))
    (on_abcd f (slice_index x (place_of f i)) (slice_index s 0) (slice_index t i) r)))

-- l and its padding, n bytes in all
abbrev pub tail_of : List ℕ → ℕ → ℕ → List ℕ
tail_of l n bits = l ++ padding (n - 9 - length l) bits

-- RFC 1321, 3.1 and 3.2: n is the length of a rest of r bytes with its padding, one block or two
pub record PaddedLength (r n : ℕ) : Type 0 where
  pub zeros : n ≡ r + 9 + zeros_after r
  pub fits : n ≤ 128
