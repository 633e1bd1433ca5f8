-- `md5_from` meets its contract: the whole blocks, and then the rest with its padding.
use Rattle.std.proofs.Common.{◌-◌, ◌*◌, ◌/◌, length, take, drop, refl, ap, ◌∙◌}
use Rattle.md5_digest.proofs.Md5Laws.{whole}
use Rattle.md5_digest.specs.Parts.{tail_of}
use Rattle.md5_digest.proofs.md5_from.Goals as goal

pub returns : goal.returns
returns c = let a = c.args in
    let l = a.s.now in
    let rest = take (length l - length l / 64 * 64) (drop (length l / 64 * 64) l) in
    let n = c.padded_length-n.result in
    cc (whole l rest (take n c.tail-t.result) a.r a.done n refl c.padded_length-n.ensures
    (c.tail-t.ensures ∙ ap (tail_of rest n) c.bit_count.ensures))
