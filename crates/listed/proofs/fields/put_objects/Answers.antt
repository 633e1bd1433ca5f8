-- `put_objects` meets its contract.
use Rattle.listed.proofs.TextLaws.{puts_nothing, puts_field}
use Rattle.listed.proofs.fields.put_objects.Goals as goal

pub returns-in-Missing : goal.returns-in-Missing
returns-in-Missing c = rw c.in-Missing.is puts_nothing

pub returns-in-Own : goal.returns-in-Own
returns-in-Own c = rw (c.in-Own.is, ← c.part.ensures) (puts_field c.in-Own.kind c.part.result.now c.put_object.ensures)

pub returns-in-Part : goal.returns-in-Part
returns-in-Part c = rw (c.in-Part.is, ← c.bytes_at.ensures) (puts_field c.in-Part.kind c.bytes_at.result.now c.put_object-in-Part.ensures)

pub returns-in-Run : goal.returns-in-Run
returns-in-Run c = rw c.in-Run.is c.put_run.ensures
