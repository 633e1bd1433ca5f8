-- `key_block` meets its contract.
use mathlib.Core.Path.{◌≡◌, refl}
use Prim.Native.Nat.{◌<◌}
use native.Mathlib.Numerals.{add-one}
use native.Mathlib.Omega.{arith}
use lib.ListN.{length, length-set}
use Rattle.hmac.proofs.KeyLaws.{front_none, front_more, front_all}
use borrow.Author.Rules.{rules}
use Rattle.hmac.proofs.key_block.Goals as goal

pub loop-i-init : goal.loop-i-init
loop-i-init c = (refl, front_none c.args.p c.args.key.now)

pub loop-i-preserved : goal.loop-i-preserved
loop-i-preserved c = let k = c.loop-i in
    let a = c.args in
    let h : k.i < length a.key.now = omega arith in
    (simp length-set (search rules), rw add-one (cc (front_more a.p a.key.now (search rules) k.i h)))

pub returns : goal.returns
returns c = let k = c.loop-i in
    let a = c.args in
    let e : k.i ≡ length a.key.now = omega arith in
    cc (front_all a.p a.key.now (search rules))
