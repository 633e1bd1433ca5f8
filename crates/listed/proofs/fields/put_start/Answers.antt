-- `put_start` meets its contract.
use Rattle.told.proofs.PutsLaws.{puts_both}
use Rattle.listed.specs.Text.{start_text}
use Rattle.listed.proofs.fields.put_start.Goals as goal

pub returns : goal.returns
unfolding start_text
returns c = puts_both (puts_both c.put-zero.ensures c.next_decimal-first.ensures) c.next_decimal.ensures
