-- `put_four` meets its contract.
use native.Mathlib.Omega.{arith}
use Rattle.message.proofs.LaidLaws.{lays_room, lays_more}
use Rattle.message.proofs.writing.put_four.Goals as goal

pub put_one-at-requires-2 : goal.put_one-at-requires-2
put_one-at-requires-2 c = lays_room c.put_one-at.ensures c.requires.room _ (omega arith)

pub put_one-at-requires-3 : goal.put_one-at-requires-3
put_one-at-requires-3 c =
    let two = lays_more c.put_one-at.ensures c.requires.room (omega arith) c.put_one-at-2.ensures in
    lays_room two c.requires.room _ (omega arith)

pub put_one-requires : goal.put_one-requires
put_one-requires c =
    let two = lays_more c.put_one-at.ensures c.requires.room (omega arith) c.put_one-at-2.ensures in
    let three = lays_more two c.requires.room (omega arith) c.put_one-at-3.ensures in
    lays_room three c.requires.room _ (omega arith)

pub returns : goal.returns
returns c =
    let two = lays_more c.put_one-at.ensures c.requires.room (omega arith) c.put_one-at-2.ensures in
    let three = lays_more two c.requires.room (omega arith) c.put_one-at-3.ensures in
    lays_more three c.requires.room (omega arith) c.put_one.ensures
