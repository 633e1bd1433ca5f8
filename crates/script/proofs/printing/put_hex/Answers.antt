-- `put_hex` meets its contract. The loop's invariant: the first `i` bytes are put.
use Prim.Native.Nat.{◌+◌, ◌*◌}
use mathlib.Core.Path.{◌≡◌, sym}
use native.Mathlib.Omega.{arith}
use lib.ListN.{length, length-set}
use borrow.Author.Tests.{leb-true}
use Rattle.std.proofs.lemmas.Bool.Decides.{nat_tests}
use Rattle.script.proofs.PrintLaws.{hexed_none, hexed_long, printing_starts, printing_length, printing_next, printing_ends, printed_length}
use Rattle.script.proofs.printing.put_hex.Goals as goal

pub shape_of-out-then-is_empty : goal.shape_of-out-then-is_empty
shape_of-out-then-is_empty c = printed_length c.put_text.ensures

pub returns-then-is_empty : goal.returns-then-is_empty
returns-then-is_empty c =
    let none : length c.args.value.now ≡ 0 = grind (arith, nat_tests) in
    rw (hexed_none c.args.value.now none) c.put_text.ensures

pub glyph-requires : goal.glyph-requires
glyph-requires c = omega (arith, c.type_inv.value c.loop-i.i)

pub overflow_mul-out : goal.overflow_mul-out
overflow_mul-out c = omega (arith, c.loop-i.invariant.room)

pub overflow_add-out : goal.overflow_add-out
overflow_add-out c = omega (arith, c.loop-i.invariant.room)

pub bounds-out-at : goal.bounds-out-at
bounds-out-at c = let p = c.loop-i.invariant in omega (arith, printing_length p, p.room)

pub overflow_add-out-in-loop-i-2 : goal.overflow_add-out-in-loop-i-2
overflow_add-out-in-loop-i-2 c = omega (arith, c.loop-i.invariant.room)

pub bounds-out-at-in-loop-i : goal.bounds-out-at-in-loop-i
bounds-out-at-in-loop-i c = let p = c.loop-i.invariant in rw length-set (omega (arith, printing_length p, p.room))

pub loop-i-preserved : goal.loop-i-preserved
loop-i-preserved c = printing_next c.loop-i.invariant _ _ (omega arith) c.glyph.ensures c.glyph-in-loop-i.ensures

pub shape_of-out : goal.shape_of-out
shape_of-out c = printing_length c.loop-i.invariant

pub returns : goal.returns
returns c = printing_ends c.loop-i.invariant c.loop-i-test.false

pub returns-then-not-has_room : goal.returns-then-not-has_room
returns-then-not-has_room c = let a = c.args in
    let some : length a.value.now ≡ 0 → ⊥ = λ (none : length a.value.now ≡ 0). grind (arith, nat_tests) in
    hexed_long a.value.now a.out.now a.at some (sym c.if-not-has_room.ensures)

pub loop-i-init : goal.loop-i-init
loop-i-init c = let a = c.args in
    let some : length a.value.now ≡ 0 → ⊥ = λ (none : length a.value.now ≡ 0). grind (arith, nat_tests) in
    printing_starts a.value.now a.out.now a.at some (leb-true (a.at + 2 * length a.value.now) (length a.out.now) (sym c.if-not-has_room.ensures))
