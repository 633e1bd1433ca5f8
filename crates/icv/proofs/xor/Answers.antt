-- `xor` meets its contract.
use native.Mathlib.Omega.{arith}
use mathlib.Core.Path.{◌≡◌, refl, sym, ◌∙◌}
use lib.ListN.{length, length-set}
use lib.Seq.{take_all}
use borrow.Author.Rules.{rules}
use Rattle.icv.specs.Icv.{xored}
use Rattle.icv.proofs.XorLaws.{xored_length, xored_next}
use Rattle.icv.proofs.xor.Goals as goal

pub loop-i-init : goal.loop-i-init
loop-i-init c = (refl, refl)

pub loop-i-preserved : goal.loop-i-preserved
loop-i-preserved c = let w = c.args in
    let p : length w.a ≡ 16 = search rules in
    let q : length w.b ≡ 16 = search rules in
    (simp length-set c.loop-i.invariant.0, xored_next w.a w.b c.loop-i.t c.loop-i.i (omega arith) (p ∙ sym q) (c.loop-i.invariant.0 ∙ sym p) c.loop-i.invariant.1)

pub returns : goal.returns
returns c = let w = c.args in
    let p : length w.a ≡ 16 = search rules in
    let q : length w.b ≡ 16 = search rules in
    let long = xored_length w.a w.b (omega arith) in
    sym (take_all c.loop-i.i c.loop-i.t (omega arith)) ∙ c.loop-i.invariant.1 ∙ take_all c.loop-i.i (xored w.a w.b) (omega arith)
