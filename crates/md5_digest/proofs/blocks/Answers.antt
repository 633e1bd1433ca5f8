-- `blocks` meets its contract.
use Rattle.std.proofs.Common.{◌≡◌, ◌+◌, ◌-◌, ◌*◌, ◌/◌, length, take, drop, refl, ap, ap₂, ◌∙◌, add-one, arith, List, ℕ}
use Rattle.md5_digest.specs.Md5.{blocks_of, block_of, words_at}
use Rattle.md5_digest.specs.declared.State.{State}
use Rattle.md5_digest.proofs.BlockLaws.{next_block}
use Rattle.md5_digest.proofs.blocks.Goals as goal

pub loop-i-init : goal.loop-i-init
unfolding blocks_of
loop-i-init c = refl

pub loop-i-preserved : goal.loop-i-preserved
loop-i-preserved c =
    let i = c.loop-i.i in
    let l = c.args.s.now in
    let size : 64 * i + 64 - 64 * i ≡ 64 = omega arith in
    rw add-one
    (c.block-q.ensures
    ∙ ap₂ (λ (x : List ℕ) (q : State). block_of x q) (c.words.ensures ∙ ap (λ (n : ℕ). words_at (take n (drop (64 * i) l)) 0 16) size) c.loop-i.invariant
    ∙ next_block l (take 64 (drop (64 * i) l)) i c.args.r refl)

pub returns : goal.returns
returns c = let e : c.loop-i.i ≡ length c.args.s.now / 64 = omega arith in c.loop-i.invariant ∙ ap (λ (n : ℕ). blocks_of n c.args.s.now c.args.r) e
