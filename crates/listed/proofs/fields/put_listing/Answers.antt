-- `put_listing` meets its contract.
use Rattle.listed.specs.Text.{refusal_text}
use Rattle.listed.proofs.fields.put_listing.Goals as goal

pub returns-in-Err : goal.returns-in-Err
unfolding refusal_text
returns-in-Err c = rw (c.in-Err.is, ← c.from.ensures) c.put_refusal.ensures

pub returns-in-Ok : goal.returns-in-Ok
returns-in-Ok c = rw c.in-Ok.is c.put_message.ensures
