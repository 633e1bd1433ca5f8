-- `tail` meets its contract: the rest, the mark and the count put into zeros.
use Rattle.std.proofs.Common.{rules, ◌∙◌}
use Rattle.md5_digest.proofs.PaddingLaws.{filled}
use Rattle.md5_digest.proofs.BytesLaws.{low_eight}
use Rattle.md5_digest.proofs.tail.Goals as goal

pub returns : goal.returns
returns c = let a = c.args in
    filled a.rest.now c.copy_from_slice.new.self c.copy_from_slice-2.new.self a.n a.bits _ (search rules) (search rules)
    c.copy_from_slice.ensures.after (c.copy_from_slice-2.ensures.after ∙ c.to_le_bytes.ensures ∙ low_eight a.bits)
