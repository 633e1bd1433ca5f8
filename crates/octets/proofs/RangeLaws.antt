-- What the test of a range says, and when it holds; what is left of a room.
use Prim.Native.Nat.{ℕ, ◌+◌, ◌-◌, ◌≤◌}
use native.Mathlib.Omega.{arith}
use mathlib.Core.Bool.{true, false}
use mathlib.Core.Path.{◌≡◌}
use lib.Dec.{leb}
use borrow.Author.Tests.{le-leb, lt-leb, leb-true, leb-false}
use Rattle.octets.specs.Range.{within}
use Rattle.octets.proofs.ChoiceLaws.{fails, same_test, both_left, both_right}

-- what the test says, when it holds and when it fails
pub within_is : (low high n : ℕ) → within low high n ≡ true → (low ≤ n) × (n ≤ high)
within_is low high n e =
    (leb-true low n (both_left (leb low n) (leb n high) e), leb-true n high (both_right (leb low n) (leb n high) e))

pub within_yes : (low high n : ℕ) → low ≤ n → n ≤ high → within low high n ≡ true
within_yes low high n p q = rw (le-leb low n p, le-leb n high q)

pub within_no : (low high n : ℕ) → (low ≤ n → n ≤ high → ⊥) → within low high n ≡ false
within_no low high n h = fails (within low high n) (λ e. let (least, most) = within_is low high n e in h least most)

-- the code's test, which no sum makes too large
pub room_left : (room at size : ℕ) → size ≤ room → leb at (room - size) ≡ leb (at + size) room
room_left room at size h =
    same_test (leb at (room - size))
    (λ e. le-leb (at + size) room (omega (arith, leb-true at (room - size) e)))
    (λ e. lt-leb (at + size) room (omega (arith, leb-false at (room - size) e)))
