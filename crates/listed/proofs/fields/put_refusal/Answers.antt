-- `put_refusal` meets its contract.
use Rattle.told.proofs.PutsLaws.{puts_both}
use Rattle.listed.proofs.fields.put_refusal.Goals as goal

pub returns : goal.returns
returns c = puts_both c.put_decimal-next.ensures c.put.ensures
