-- `digest` meets its contract.
use Rattle.md5_digest.proofs.BytesLaws.{digest_law}
use Rattle.md5_digest.proofs.digest.Goals as goal

pub returns : goal.returns
returns c =
    rw (
      c.copy_from_slice.ensures.after,
      c.copy_from_slice-2.ensures.after,
      c.copy_from_slice-3.ensures.after,
      c.copy_from_slice-4.ensures.after,
      c.to_le_bytes.ensures,
      c.to_le_bytes-2.ensures,
      c.to_le_bytes-3.ensures,
      c.to_le_bytes-4.ensures,
    ) (digest_law c.args.r)
