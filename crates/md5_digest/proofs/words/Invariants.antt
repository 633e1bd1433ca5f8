-- The first `i` words are read.
use Rattle.std.proofs.Common.{◌≡◌, length, take}
use Rattle.md5_digest.specs.Md5.{words_at}
use Rattle.md5_digest.proofs.words.Given as goal

abbrev pub invariant-loop-i : goal.invariant-loop-i
invariant-loop-i l = (length l.x ≡ 16) × (take l.i l.x ≡ words_at l.block 0 l.i)
