-- `authenticator` meets its contract: a message of less than a block is hashed as it is copied; of a longer one the hash goes on from the first block.
use Prim.Native.Nat.{◌-◌}
use lib.ListN.{length, take, drop}
use Rattle.octets.proofs.ListLaws.{tail_of_law}
use Rattle.authenticator.proofs.BlockLaws.{short_message, long_message}
use Rattle.authenticator.proofs.authenticator.Goals as goal

pub returns-then-n-lt64 : goal.returns-then-n-lt64
returns-then-n-lt64 c = let a = c.args in
    short_message a.secret.now a.m.now c.first_block-block.result c.keyed_start-keyed.result c.hmac_from.result
    c.if-n-lt64.true c.keyed_start-keyed.ensures c.first_block-block.ensures c.hmac_from.ensures

pub returns : goal.returns
returns c = let a = c.args in
    long_message a.secret.now a.m.now c.first_block-block.result (take (length a.m.now - 64) (drop 64 a.m.now)) c.md5_from-digest.result c.md5_from.result
    c.keyed_start-keyed.result c.blocks-inner.result c.if-n-lt64.false c.keyed_start-keyed.ensures c.first_block-block.ensures c.blocks-inner.ensures
    (tail_of_law a.m.now 64) c.md5_from-digest.ensures c.md5_from.ensures
