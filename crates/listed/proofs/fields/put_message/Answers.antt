-- `put_message` meets its contract.
use Rattle.told.proofs.PutsLaws.{puts_both}
use Rattle.listed.specs.Text.{message_text}
use Rattle.listed.proofs.fields.put_message.Goals as goal

pub returns : goal.returns
unfolding message_text
returns c = puts_both (puts_both c.put_start-start.ensures c.put_fields-last.ensures) c.put.ensures
