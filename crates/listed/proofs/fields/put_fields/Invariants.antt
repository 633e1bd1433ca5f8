-- `put_fields` meets its contract. The loop's invariant: the objects of the first fields are put.
use lib.ListN.{take}
use Rattle.told.specs.Print.{Puts}
use Rattle.listed.specs.Text.{objects_text}
use Rattle.listed.specs.Fields.{all_objects}
use Rattle.listed.proofs.fields.put_fields.Given as goal

abbrev pub invariant-loop-field : goal.invariant-loop-field
invariant-loop-field l = Puts (objects_text (all_objects l.m (take l.field-index l.fields))) l.initial.text l.at l.text l.next
