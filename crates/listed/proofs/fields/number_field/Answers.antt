use Rattle.std.proofs.Common.{List, ℕ, [], ◌∷◌, ap, arith}
use Rattle.message.specs.Writing.{object}
use Rattle.listed.proofs.TextLaws.{own_number}
use Rattle.listed.proofs.fields.number_field.Goals as goal

pub returns : goal.returns
returns c = λ m.
    ap (λ (v : List ℕ). object c.args.kind v ∷ []) (own_number 12 c.args.size c.args.n c.put_number.new.out (omega (arith, c.requires)) c.put_number.ensures)
