-- `put_fields` meets its contract. The loop's invariant: the objects of the first fields are put.
use native.Mathlib.Omega.{arith}
use mathlib.Core.Path.{◌≡◌}
use lib.ListN.{take}
use lib.Seq.{take_all}
use Rattle.listed.proofs.TextLaws.{puts_nothing, puts_fields}
use Rattle.listed.proofs.fields.put_fields.Goals as goal

pub loop-field-init : goal.loop-field-init
loop-field-init c = puts_nothing

pub loop-field-preserved : goal.loop-field-preserved
loop-field-preserved c = puts_fields c.args.m.now c.args.fields.now c.loop-field.field-index _ (omega arith) c.loop-field.invariant c.put_objects-next.ensures

pub shape_of-text : goal.shape_of-text
shape_of-text c = c.loop-field.invariant.long

pub returns : goal.returns
returns c =
    let all : take c.loop-field.field-index c.args.fields.now ≡ c.args.fields.now = take_all c.loop-field.field-index c.args.fields.now (omega arith) in
    rw all at c.loop-field.invariant
