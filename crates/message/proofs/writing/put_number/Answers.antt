-- `put_number` meets its contract.
use mathlib.Core.Path.{◌∙◌}
use native.Mathlib.Omega.{arith}
use Rattle.octets.specs.Numbers.{bytes_of}
use Rattle.octets.proofs.NumberLaws.{bytes_length}
use Rattle.message.proofs.ObjectLaws.{placed_none, start_room, start_then, start_none}
use Rattle.message.proofs.writing.put_number.Goals.{then-start_object, else-start_object}
use Rattle.message.proofs.writing.put_number.Goals as goal

pub returns-then-size-gt253 : goal.returns-then-size-gt253
returns-then-size-gt253 c = let a = c.args in placed_none a.out.now a.at a.kind (bytes_of a.size a.n) (rw bytes_length c.if-size-gt253.true)

pub overflow_add-at : goal.overflow_add-at
overflow_add-at c = let a = c.args in
    omega (arith, start_room c.start_object.ensures (bytes_of a.size a.n) (bytes_length a.size a.n) c.if-size-gt253.false c.if-start_object.true)

pub returns : goal.returns
returns c = let start = c.start_object.ensures in
    let a = c.args in
    let v = bytes_of a.size a.n in
    let long = bytes_length a.size a.n in
    elim c.if-start_object.branch [
      | then-start_object w ↦ start_then start v long c.if-size-gt253.false w.if-start_object.true (w.out-is ∙ w.put_number.ensures)
      | else-start_object w ↦ start_none start v long c.if-size-gt253.false w.if-start_object.false w.out-is
    ]
