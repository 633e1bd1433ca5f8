-- `words` meets its contract. The loop's invariant: the first `i` words are read.
use Rattle.std.proofs.Common.{◌≡◌, ◌<◌, ◌≤◌, ◌++◌, ◌∷◌, [], length, sym, refl, ap, ◌∙◌, add-one, arith, length-set, take_all, take-suc-set, rules, List, ℕ}
use Rattle.md5_digest.specs.Md5.{words_at}
use Rattle.md5_digest.proofs.BlockLaws.{words_more}
use Rattle.md5_digest.proofs.words.Goals as goal

pub loop-i-init : goal.loop-i-init
unfolding words_at
loop-i-init c = (refl, refl)

pub loop-i-preserved : goal.loop-i-preserved
loop-i-preserved c = let k = c.loop-i in
    let w = c.word.result in
    let h : k.i < length k.x = omega arith in (
      simp length-set (search rules),
      rw add-one (take-suc-set k.x k.i w h ∙ ap (λ (l : List ℕ). l ++ (w ∷ [])) k.invariant.1 ∙ words_more c.args.block.now k.i w c.word.ensures),
    )

pub returns : goal.returns
returns c = let k = c.loop-i in
    let e : k.i ≡ 16 = omega arith in
    let h : length k.x ≤ 16 = omega arith in
    sym (take_all 16 k.x h) ∙ cc
