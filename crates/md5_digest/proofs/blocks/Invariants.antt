-- The state is the one after the first `i` blocks.
use Rattle.std.proofs.Common.{◌≡◌}
use Rattle.md5_digest.specs.Md5.{blocks_of}
use Rattle.md5_digest.proofs.blocks.Given as goal

abbrev pub invariant-loop-i : goal.invariant-loop-i
invariant-loop-i l = l.q ≡ blocks_of l.i l.s l.initial.q
