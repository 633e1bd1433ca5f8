-- `put_object` meets its contract.
use mathlib.Core.Path.{◌∙◌, refl}
use native.Mathlib.Omega.{arith}
use Rattle.message.proofs.ObjectLaws.{placed_none, start_room, start_then, start_none}
use Rattle.message.proofs.writing.put_object.Goals.{then-start_object, else-start_object}
use Rattle.message.proofs.writing.put_object.Goals as goal

pub returns-then-n-gt253 : goal.returns-then-n-gt253
returns-then-n-gt253 c = let a = c.args in placed_none a.out.now a.at a.kind a.value.now c.if-n-gt253.true

pub overflow_add-at : goal.overflow_add-at
overflow_add-at c = omega (arith, start_room c.start_object.ensures c.args.value.now refl c.if-n-gt253.false c.if-start_object.true)

pub returns : goal.returns
returns c = let start = c.start_object.ensures in
    let v = c.args.value.now in
    elim c.if-start_object.branch [
      | then-start_object w ↦ start_then start v refl c.if-n-gt253.false w.if-start_object.true (w.out-is ∙ w.put_bytes.ensures)
      | else-start_object w ↦ start_none start v refl c.if-n-gt253.false w.if-start_object.false w.out-is
    ]
