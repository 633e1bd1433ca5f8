-- `fit` meets its contract.
use mathlib.Core.Path.{sym, ◌∙◌}
use native.Mathlib.Omega.{arith}
use borrow.Author.Tests.{lt-leb, leb-true, leb-false}
use Rattle.message.specs.Laid.{laid_all}
use Rattle.message.proofs.WritingLaws.{header_limit}
use Rattle.message.proofs.LaidLaws.{laid_longer, laid_more}
use Rattle.message.proofs.writing.fit.Goals as goal

pub loop-o-init : goal.loop-o-init
unfolding laid_all
loop-o-init c = (omega (arith, c.header-end.ensures), omega (arith, c.header-end.ensures, header_limit c.args.f))

pub returns-then-not-has_room : goal.returns-then-not-has_room
returns-then-not-has_room c = let os = c.args.objects.now in
    let over = leb-false _ _ (sym c.has_room.ensures ∙ c.if-not-has_room.true) in
    let more = laid_more os c.loop-o.o-index _ c.loop-o-test.true c.size-n.ensures in
    sym (lt-leb _ _ (omega (arith, over, more, c.loop-o.invariant.0, c.limit-limit.ensures)))

pub loop-o-preserved : goal.loop-o-preserved
loop-o-preserved c = let os = c.args.objects.now in
    let within = leb-true _ _ (sym c.has_room.ensures ∙ c.if-not-has_room.false) in
    let longer = laid_longer os c.loop-o.o-index _ c.loop-o-test.true c.size-n.ensures in
    (omega (arith, longer, c.loop-o.invariant.0), omega (arith, within, c.limit-limit.ensures))
