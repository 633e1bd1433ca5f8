-- `put_one` meets its contract.
use native.Mathlib.Omega.{arith}
use Rattle.message.proofs.LaidLaws.{one_room, lays_one, lays_none}
use Rattle.message.proofs.writing.put_one.Goals as goal

pub overflow_add-result : goal.overflow_add-result
overflow_add-result c = let a = c.args in
    omega (arith, one_room a.objects.now a.i a.at a.out.now c.requires _ c.if-i-objects.true c.put.ensures.size, c.well_formed)

pub returns-then-i-objects : goal.returns-then-i-objects
returns-then-i-objects c = let a = c.args in
    lays_one a.objects.now a.i a.at a.out.now c.requires _ c.if-i-objects.true c.put.ensures.size c.put.ensures.left

pub returns-else-i-objects : goal.returns-else-i-objects
returns-else-i-objects c = let a = c.args in lays_none a.objects.now a.i a.at a.out.now c.requires c.if-i-objects.false
