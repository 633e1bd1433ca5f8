-- `write` meets its contract.
use Prim.Native.Nat.{◌+◌}
use mathlib.Core.Path.{sym, ◌∙◌}
use native.Mathlib.Omega.{arith}
use lib.ListN.{length}
use borrow.Author.Tests.{leb-true, leb-false}
use Rattle.object.specs.Family.{header_of, limit_of}
use Rattle.message.specs.Laid.{laid_all}
use Rattle.message.proofs.WritingLaws.{message_length, writes_done, writes_small, writes_range, writes_long}
use Rattle.message.proofs.writing.write.Goals as goal

pub put_all-end-requires : goal.put_all-end-requires
put_all-end-requires c = let a = c.args in
    let whole = leb-true (header_of a.f + length (laid_all a.objects.now)) (limit_of a.f) (sym c.fit.ensures ∙ c.if-not-fit.false) in
    omega (arith, whole, c.limit.ensures, c.if-out-limit.false)

pub returns-then-out-limit : goal.returns-then-out-limit
returns-then-out-limit c = writes_small c.args.f _ _ _ c.limit.ensures c.if-out-limit.true

pub returns-then-not-in_range : goal.returns-then-not-in_range
returns-then-not-in_range c = writes_range c.args.f _ _ c.limit.ensures c.if-out-limit.false c.if-not-in_range.true

pub returns-then-not-fit : goal.returns-then-not-fit
returns-then-not-fit c = let a = c.args in
    let long = leb-false (header_of a.f + length (laid_all a.objects.now)) (limit_of a.f) (sym c.fit.ensures ∙ c.if-not-fit.true) in
    writes_long a.f _ _ _ c.limit.ensures c.if-out-limit.false
    (omega (arith, long, c.limit.ensures, message_length a.f a.code a.second (laid_all a.objects.now)))

pub returns : goal.returns
returns c = let a = c.args in
    let whole = leb-true (header_of a.f + length (laid_all a.objects.now)) (limit_of a.f) (sym c.fit.ensures ∙ c.if-not-fit.false) in
    writes_done a.f a.out.now (laid_all a.objects.now) c.put_all-end.ensures.left c.put_all-end.ensures.end whole (omega (arith, c.limit.ensures, c.if-out-limit.false)) a.code a.second
    c.if-not-in_range.false c.put_head.ensures
