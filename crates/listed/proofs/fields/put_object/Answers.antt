-- `put_object` meets its contract.
use Rattle.told.proofs.PutsLaws.{puts_both}
use Rattle.listed.specs.Text.{field_text}
use Rattle.listed.proofs.fields.put_object.Goals as goal

pub returns : goal.returns
unfolding field_text
returns c = puts_both (puts_both c.next_decimal-named.ensures c.put-told.ensures) c.put_hex.ensures
