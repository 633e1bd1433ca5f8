-- `bytes` meets its contract: four numbers put one after the other.
use mathlib.Core.Path.{◌∙◌}
use borrow.Author.Rules.{rules}
use mir.Syntax.{w16}
use Rattle.octets.proofs.SignedLaws.{unsigned_cast}
use Rattle.position.proofs.PositionLaws.{position_put}
use Rattle.position.proofs.bytes.Goals as goal

pub returns : goal.returns
returns c =
    let p = c.args.p in
    position_put p (c.from.ensures ∙ c.angle_number.ensures) (c.from-2.ensures ∙ c.angle_number-2.ensures)
    (c.from-3.ensures ∙ c.cast_unsigned.ensures ∙ unsigned_cast w16 p.sea (search rules))
    (c.from-4.ensures ∙ c.cast_unsigned-2.ensures ∙ unsigned_cast w16 p.land (search rules))
    c.put_number.ensures c.put_number-2.ensures c.put_number-3.ensures c.put_number-4.ensures
