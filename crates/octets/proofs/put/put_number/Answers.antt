-- `put_number` meets its contract. It goes from the last byte to the first: past `i` the bytes are put, and `left` is what is left of the number.
use Prim.Native.Nat.{ℕ, suc, ◌+◌, ◌-◌, ◌/◌, ◌%◌, ◌^◌, ◌≤◌, ◌<◌}
use native.Mathlib.Omega.{arith}
use native.Mathlib.Nat.{pow-suc, div-div-eq-div-mul, div-one}
use mathlib.Core.Path.{◌≡◌, sym, ap, ◌∙◌}
use mathlib.Core.List.{List}
use lib.ListN.{length, set}
use borrow.Author.Tests.{leb-true, leb-false}
use Rattle.octets.specs.Numbers.{bytes_of}
use Rattle.octets.specs.Put.{put_in}
use Rattle.octets.proofs.NumberLaws.{bytes_length}
use Rattle.octets.proofs.PutLaws.{put_length, put_none, put_before, put_in_fits, put_in_none}
use Rattle.octets.proofs.put.put_number.Invariants.{Putting}
use Rattle.octets.proofs.put.put_number.Goals as goal

begins : (l : List ℕ) (at size n : ℕ) → at + size ≤ length l → Putting l at size n l size n
unfolding bytes_of
begins l at size n h =
    let e : size - size ≡ 0 = omega arith in
    record { room = h; low = omega arith; is = rw e (sym (put_none l (at + size))); left_is = rw e (sym (div-one n)) }

module _ {l : List ℕ} {at size n : ℕ} {out : List ℕ} {i left : ℕ} (s : Putting l at size n out i left) where
  steps : 0 < i → Putting l at size n (set out (at + (i - 1)) (left % 256)) (i - 1) (left / 256)
  unfolding bytes_of
  steps pos =
      let e₁ : at + i ≡ suc (at + (i - 1)) = omega arith in
      let e₂ : size - (i - 1) ≡ suc (size - i) = omega (arith, s.low) in
      let room : at + (i - 1) + suc (length (bytes_of (size - i) n)) ≤ length l =
      omega (arith, bytes_length (size - i) n, s.low, s.room) in
      record {
        room = s.room;
        low = omega (arith, s.low);
        is = rw (e₂, s.is, s.left_is, e₁)
            (put_before l (at + (i - 1)) (n / 256 ^ (size - i) % 256) (bytes_of (size - i) n) room);
        left_is = rw (e₂, pow-suc, s.left_is) (div-div-eq-div-mul n (256 ^ (size - i)) 256);
      }

  ends : i ≤ 0 → out ≡ put_in l at (bytes_of size n)
  ends z =
      let e₁ : at + i ≡ at = omega arith in
      let e₂ : size - i ≡ size = omega arith in
      (rw (e₁, e₂) at s.is) ∙ sym (put_in_fits l at (bytes_of size n) (rw bytes_length s.room))

  long : length out ≡ length l
  long = ap length s.is ∙ put_length l (at + i) (bytes_of (size - i) n) (omega (arith, bytes_length (size - i) n, s.low, s.room))

pub loop-i-init : goal.loop-i-init
loop-i-init c = let a = c.args in
    begins a.out.now a.at a.size a.n (leb-true (a.at + a.size) (length a.out.now) (sym c.has_room.ensures ∙ c.if-has_room.true))

pub overflow_add-out : goal.overflow_add-out
overflow_add-out c = omega (arith, c.loop-i.invariant.low, c.loop-i.invariant.room)

pub bounds-out-at : goal.bounds-out-at
bounds-out-at c = omega (arith, long c.loop-i.invariant, c.loop-i.invariant.low, c.loop-i.invariant.room)

pub loop-i-preserved : goal.loop-i-preserved
loop-i-preserved c = steps c.loop-i.invariant c.loop-i-test.true

pub shape_of-out : goal.shape_of-out
shape_of-out c = long c.loop-i.invariant

pub returns-after-loop-i : goal.returns-after-loop-i
returns-after-loop-i c = ends c.loop-i.invariant c.loop-i-test.false

pub returns-else-has_room : goal.returns-else-has_room
returns-else-has_room c = let a = c.args in
    let short : length a.out.now < a.at + a.size =
    leb-false (a.at + a.size) (length a.out.now) (sym c.has_room.ensures ∙ c.if-has_room.false) in
    sym (put_in_none a.out.now a.at (bytes_of a.size a.n) (rw bytes_length short))
