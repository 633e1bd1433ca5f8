use Rattle.std.proofs.Common.{List, ℕ, [], ◌∷◌, ap, ◌∙◌, arith}
use Rattle.message.specs.Writing.{object}
use Rattle.listed.proofs.TextLaws.{own_value}
use Rattle.listed.proofs.air.uplink_field.Goals as goal

pub returns-in-Some : goal.returns-in-Some
returns-in-Some c = λ m.
    rw c.in-Some.is (ap (λ (v : List ℕ). object 19 v ∷ [])
    (own_value 6 12 c.uplink_bytes.result c.fitted.result (omega arith) (omega arith) c.fitted.ensures ∙ c.uplink_bytes.ensures))
