use Rattle.std.proofs.Common.{sym, ◌∙◌}
use Rattle.octets.proofs.SameLaws.{same_pointwise}
use Rattle.script.proofs.HexLaws.{size_dash, size_other}
use Rattle.script.proofs.reading.hex_size.Goals as goal

pub returns-then-eq : goal.returns-then-eq
returns-then-eq c = sym (size_dash _ (sym (same_pointwise _ _) ∙ sym (rw c.as_slice.ensures at c.if-eq.ensures)))

pub returns : goal.returns
returns c = rw (c.then_some.ensures, c.is_hex.ensures) (size_other _ (sym (same_pointwise _ _) ∙ sym (rw c.as_slice.ensures at c.if-eq.ensures)))
