-- `unhex` meets its contract. The loop's invariant: the first `i` bytes are read.
use Rattle.std.proofs.Common.{sym, arith, ◌*◌, ◌+◌, get_or}
use Rattle.script.proofs.DigitLaws.{digit_read, digit_told}
use Rattle.script.proofs.HexLaws.{reading_starts, reading_there, reading_digit, reading_next, reading_ends, unhex_bad, unhex_long}
use Rattle.script.proofs.reading.unhex.Goals as goal

pub returns-in_err-n : goal.returns-in_err-n
returns-in_err-n c = rw c.from_residual.ensures (unhex_bad _ _ (sym c.in_err-n.ensures))

pub returns-then-out-n : goal.returns-then-out-n
returns-then-out-n c = unhex_long _ _ _ (sym c.in_ok-n.ensures) c.if-out-n.true

pub loop-i-init : goal.loop-i-init
loop-i-init c = reading_starts _ _ _ (sym c.in_ok-n.ensures) c.if-out-n.false

pub unwrap-high-requires : goal.unwrap-high-requires
unwrap-high-requires c =
    let there = reading_there c.loop-i.invariant c.loop-i-test.true in
    c.to_digit.ensures.succeeds (digit_told 16 _ _ (omega arith) c.from.ensures (reading_digit c.loop-i.invariant c.loop-i-test.true (2 * c.loop-i.i) (omega arith)))

pub unwrap-low-requires : goal.unwrap-low-requires
unwrap-low-requires c =
    let there = reading_there c.loop-i.invariant c.loop-i-test.true in
    c.to_digit-in-loop-i.ensures.succeeds (digit_told 16 _ _ (omega arith) c.from-in-loop-i.ensures (reading_digit c.loop-i.invariant c.loop-i-test.true (2 * c.loop-i.i + 1) there))

pub loop-i-preserved : goal.loop-i-preserved
loop-i-preserved c =
    let w = c.args.word.now in
    let i = c.loop-i.i in
    let high = digit_read 16 (get_or w (2 * i) 0) c.from.result (omega arith) c.from.ensures c.unwrap-high.result (rw c.unwrap-high.ensures at c.to_digit.ensures.value) in
    let low = digit_read 16 (get_or w (2 * i + 1) 0) c.from-in-loop-i.result (omega arith) c.from-in-loop-i.ensures c.unwrap-low.result (rw c.unwrap-low.ensures at c.to_digit-in-loop-i.ensures.value) in
    reading_next c.loop-i.invariant _ c.loop-i-test.true (omega (arith, high.1, low.1))

pub returns : goal.returns
returns c = reading_ends c.loop-i.invariant c.loop-i-test.false
