-- `put_all` meets its contract: twelve objects, or as many as there are, and then the others.
use mathlib.Core.Path.{ap, ◌∙◌}
use Prim.Native.Nat.{◌+◌}
use native.Mathlib.Omega.{arith}
use lib.ListN.{length}
use lib.Seq.{take_all}
use Rattle.octets.specs.Put.{put}
use Rattle.object.specs.Family.{header_of}
use Rattle.message.specs.Laid.{laid_all}
use Rattle.message.proofs.LaidLaws.{lays_room, lays_more}
use Rattle.message.proofs.writing.put_all.Goals as goal

pub put_four-at-requires-2-clause-room : goal.put_four-at-requires-2-clause-room
put_four-at-requires-2-clause-room c = lays_room c.put_four-at.ensures (rw (← c.header.ensures) at c.requires) 4 (omega arith)

pub put_four-at-requires-3-clause-room : goal.put_four-at-requires-3-clause-room
put_four-at-requires-3-clause-room c =
    let room = rw (← c.header.ensures) at c.requires in
    lays_room (lays_more c.put_four-at.ensures room (omega arith) c.put_four-at-2.ensures) room 8 (omega arith)

pub loop-i-init : goal.loop-i-init
loop-i-init c =
    let room = rw (← c.header.ensures) at c.requires in
    let eight = lays_more c.put_four-at.ensures room (omega arith) c.put_four-at-2.ensures in
    rw c.header.ensures at (lays_more eight room (omega arith) c.put_four-at-3.ensures)

pub put_one-at-requires : goal.put_one-at-requires
put_one-at-requires c = lays_room c.loop-i.invariant c.requires c.loop-i.i (omega arith)

pub loop-i-preserved : goal.loop-i-preserved
loop-i-preserved c = lays_more c.loop-i.invariant c.requires (omega arith) c.put_one-at.ensures

pub returns-clause-end : goal.returns-clause-end
returns-clause-end c = c.loop-i.invariant.end ∙ ap (λ os. header_of c.args.f + length (laid_all os)) (take_all c.loop-i.i c.args.objects.now c.loop-i-test.false)

pub returns-clause-left : goal.returns-clause-left
returns-clause-left c = let a = c.args in
    c.loop-i.invariant.left ∙ ap (λ os. put a.out.now (header_of a.f) (laid_all os)) (take_all c.loop-i.i a.objects.now c.loop-i-test.false)
