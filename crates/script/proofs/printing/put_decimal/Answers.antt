-- `put_decimal` meets its contract. The loop's invariant: the digits past `first` are put, and `left` is what is left of the number.
use mathlib.Core.Path.{refl}
use native.Mathlib.Omega.{arith}
use Rattle.script.proofs.PrintLaws.{spelling_starts, spelling_next, spelling_ends, printed_length}
use Rattle.script.proofs.printing.put_decimal.Goals as goal

pub loop-left-init : goal.loop-left-init
loop-left-init c = spelling_starts c.args.n _ refl (omega arith)

pub overflow_sub-first : goal.overflow_sub-first
overflow_sub-first c = omega (arith, c.loop-left.invariant.low)

pub bounds-text-first : goal.bounds-text-first
bounds-text-first c = omega (arith, c.loop-left.invariant.low, c.loop-left.invariant.high)

pub loop-left-smaller : goal.loop-left-smaller
loop-left-smaller c = omega (arith, c.loop-left.invariant.low)

pub loop-left-preserved : goal.loop-left-preserved
loop-left-preserved c = spelling_next c.loop-left.invariant _ c.loop-left-test.true c.glyph.ensures

pub overflow_sub-first-2 : goal.overflow_sub-first-2
overflow_sub-first-2 c = omega (arith, c.loop-left.invariant.low)

pub bounds-text-first-2 : goal.bounds-text-first-2
bounds-text-first-2 c = omega (arith, c.loop-left.invariant.low, c.loop-left.invariant.high)

pub slice_bounds-put_text-count : goal.slice_bounds-put_text-count
slice_bounds-put_text-count c = omega (arith, c.loop-left.invariant.high)

pub shape_of-out : goal.shape_of-out
shape_of-out c = printed_length c.put_text.ensures

pub returns : goal.returns
returns c = rw (spelling_ends c.loop-left.invariant _ c.loop-left-test.false c.glyph-2.ensures) c.put_text.ensures
