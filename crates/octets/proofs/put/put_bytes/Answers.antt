-- `put_bytes` meets its contract. The loop's invariant: the first `i` bytes are put.
use Prim.Native.Nat.{◌+◌, ◌<◌}
use native.Mathlib.Omega.{arith}
use mathlib.Core.Path.{◌≡◌, refl, sym, ap, ◌∙◌}
use lib.ListN.{length, take, length-set}
use lib.Seq.{take_all}
use borrow.Author.Tests.{leb-true, leb-false}
use Rattle.octets.specs.Put.{put}
use Rattle.octets.proofs.PutLaws.{put_none, put_next, put_in_fits, put_in_none}
use Rattle.octets.proofs.put.put_bytes.Goals as goal

pub loop-i-init : goal.loop-i-init
loop-i-init c = let a = c.args in
    (leb-true (a.at + length a.value.now) (length a.out.now) (sym c.has_room.ensures ∙ c.if-has_room.true), omega arith, refl, sym (put_none _ _))

pub loop-i-preserved : goal.loop-i-preserved
loop-i-preserved c = let a = c.args in
    (omega arith, omega arith, simp length-set c.loop-i.invariant.2, rw c.loop-i.invariant.3 (put_next a.out.now a.at a.value.now c.loop-i.i (omega arith) (omega arith)))

pub shape_of-out : goal.shape_of-out
shape_of-out c = c.loop-i.invariant.2

pub returns-after-loop-i : goal.returns-after-loop-i
returns-after-loop-i c = let a = c.args in
    let all : take c.loop-i.i a.value.now ≡ a.value.now = take_all c.loop-i.i a.value.now c.loop-i-test.false in
    c.loop-i.invariant.3 ∙ ap (put a.out.now a.at) all ∙ sym (put_in_fits a.out.now a.at a.value.now c.loop-i.invariant.0)

pub returns-else-has_room : goal.returns-else-has_room
returns-else-has_room c = let a = c.args in
    let short : length a.out.now < a.at + length a.value.now =
    leb-false (a.at + length a.value.now) (length a.out.now) (sym c.has_room.ensures ∙ c.if-has_room.false) in
    sym (put_in_none a.out.now a.at a.value.now short)
