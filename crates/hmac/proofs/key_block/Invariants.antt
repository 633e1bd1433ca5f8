-- The first `i` bytes of the key are put.
use mathlib.Core.Path.{◌≡◌}
use lib.ListN.{length}
use Rattle.hmac.proofs.KeyLaws.{key_front}
use Rattle.hmac.proofs.key_block.Given as goal

abbrev pub invariant-loop-i : goal.invariant-loop-i
invariant-loop-i l = (length l.block ≡ 64) × (l.block ≡ key_front l.p l.key l.i)
