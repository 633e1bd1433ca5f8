-- `distinct_by_pairs` meets its contract.
use mathlib.Core.Path.{◌∙◌}
use Rattle.book.proofs.LeftLaws.{differ_on}
use Rattle.book.proofs.repeats.distinct_by_pairs.Goals as goal

pub loop-e-preserved : goal.loop-e-preserved
loop-e-preserved c =
    (tt, tt, c.loop-e.invariant.2 ∙ differ_on c.in-Some.ensures.steps c.bytes_at.ensures c.with_key.ensures c.is_some.ensures c.if-is_some.false)
