use Rattle.std.proofs.Common.{◌≡◌, sym, ◌∙◌, ◌+◌, ◌*◌, arith, get_or}
use Rattle.std.proofs.lemmas.Bool.Decides.{nat_tests}
use Rattle.script.specs.Digits.{digit_of}
use Rattle.script.proofs.DigitLaws.{digit_read, digit_unread}
use Rattle.script.proofs.DecimalLaws.{decimal_none, decimal_some, digit_next, digit_bad, digit_large, digits_over}
use Rattle.script.proofs.reading.decimal.Goals as goal

pub returns-then-is_empty : goal.returns-then-is_empty
returns-then-is_empty c = grind (arith, nat_tests, decimal_none)

pub returns-in_err-d : goal.returns-in_err-d
returns-in_err-d c =
    let w = c.args.word.now in
    let i = c.loop-b.b-index in
    c.from_residual.ensures
    ∙ sym (c.loop-b.invariant.1 ∙ digit_bad c.loop-b.n w i (omega arith) (digit_unread 10 (get_or w i 0) c.from.result (omega arith) c.from.ensures c.in_err-d.ensures.value))

pub returns-in_err-checked_mul : goal.returns-in_err-checked_mul
returns-in_err-checked_mul c =
    let w = c.args.word.now in
    let i = c.loop-b.b-index in
    let d = digit_read 10 (get_or w i 0) c.from.result (omega arith) c.from.ensures c.in_ok-d.d c.in_ok-d.ensures.value in
    c.from_residual-in_err-checked_mul.ensures ∙ sym (c.loop-b.invariant.1 ∙ digit_large c.loop-b.n w i (omega arith) d.0 (omega (arith, c.in_err-checked_mul.ensures)))

pub returns-in_err-n : goal.returns-in_err-n
returns-in_err-n c =
    let w = c.args.word.now in
    let i = c.loop-b.b-index in
    let d = digit_read 10 (get_or w i 0) c.from.result (omega arith) c.from.ensures c.in_ok-d.d c.in_ok-d.ensures.value in
    c.from_residual-in_err-n.ensures
    ∙ sym (c.loop-b.invariant.1 ∙ digit_large c.loop-b.n w i (omega arith) d.0 (omega (arith, c.in_err-n.ensures, c.in_ok-checked_mul.ensures, c.from-in-loop-b.ensures, d.1)))

pub loop-b-init : goal.loop-b-init
loop-b-init c = (omega arith, grind (arith, nat_tests, decimal_some))

pub loop-b-preserved : goal.loop-b-preserved
loop-b-preserved c =
    let w = c.args.word.now in
    let i = c.loop-b.b-index in
    let d = digit_read 10 (get_or w i 0) c.from.result (omega arith) c.from.ensures c.in_ok-d.d c.in_ok-d.ensures.value in
    let n : c.in_ok-n.n ≡ c.loop-b.n * 10 + digit_of (get_or w i 0) = omega (arith, c.in_ok-n.ensures, c.in_ok-checked_mul.ensures, c.from-in-loop-b.ensures, d.1) in
    (omega arith, rw n (c.loop-b.invariant.1 ∙ digit_next c.loop-b.n w i (omega arith) d.0))

pub returns : goal.returns
returns c = sym (c.loop-b.invariant.1 ∙ digits_over c.loop-b.n c.args.word.now c.loop-b.b-index (omega arith) c.loop-b.invariant.0)
