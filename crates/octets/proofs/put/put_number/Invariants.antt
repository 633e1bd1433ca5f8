-- `put_number` meets its contract. It goes from the last byte to the first: past `i` the bytes are put, and `left` is what is left of the number.
use Prim.Native.Nat.{ℕ, ◌+◌, ◌-◌, ◌/◌, ◌^◌, ◌≤◌}
use mathlib.Core.Path.{◌≡◌}
use mathlib.Core.List.{List}
use lib.ListN.{length}
use Rattle.octets.specs.Numbers.{bytes_of}
use Rattle.octets.specs.Put.{put}
use Rattle.octets.proofs.put.put_number.Given as goal

pub record Putting (l : List ℕ) (at size n : ℕ) (out : List ℕ) (i left : ℕ) : Type 0 where
  pub room : at + size ≤ length l
  pub low : i ≤ size
  pub is : out ≡ put l (at + i) (bytes_of (size - i) n)
  pub left_is : left ≡ n / 256 ^ (size - i)

abbrev pub invariant-loop-i : goal.invariant-loop-i
invariant-loop-i l = Putting l.initial.out l.at l.size l.n l.out l.i l.left
