-- `start_object` meets its contract.
use Prim.Native.Nat.{◌+◌, ◌≤◌}
use mathlib.Core.Path.{sym, ◌∙◌}
use native.Mathlib.Omega.{arith}
use lib.ListN.{length, length-set}
use borrow.Author.Tests.{leb-true, leb-false}
use Rattle.message.proofs.ObjectLaws.{starts_none, starts_two}
use Rattle.message.proofs.writing.start_object.Goals as goal

pub bounds-out-at : goal.bounds-out-at
bounds-out-at c =
    let room : c.args.at + (c.args.n + 2) ≤ length c.args.out.now = let a = c.args in
    leb-true (a.at + (a.n + 2)) (length a.out.now) (sym c.has_room.ensures ∙ c.if-not-has_room.false) in
    omega (arith, room)

pub overflow_add-out-2 : goal.overflow_add-out-2
overflow_add-out-2 c =
    let room : c.args.at + (c.args.n + 2) ≤ length c.args.out.now = let a = c.args in
    leb-true (a.at + (a.n + 2)) (length a.out.now) (sym c.has_room.ensures ∙ c.if-not-has_room.false) in
    omega (arith, room)

pub returns-then-not-has_room : goal.returns-then-not-has_room
returns-then-not-has_room c = let a = c.args in
    let none = leb-false (a.at + (a.n + 2)) (length a.out.now) (sym c.has_room.ensures ∙ c.if-not-has_room.true) in
    starts_none a.out.now a.at a.kind a.n (omega arith)

pub bounds-out-at-2 : goal.bounds-out-at-2
bounds-out-at-2 c =
    let room : c.args.at + (c.args.n + 2) ≤ length c.args.out.now = let a = c.args in
    leb-true (a.at + (a.n + 2)) (length a.out.now) (sym c.has_room.ensures ∙ c.if-not-has_room.false) in
    simp length-set (omega (arith, room))

pub returns : goal.returns
returns c =
    let room : c.args.at + (c.args.n + 2) ≤ length c.args.out.now = let a = c.args in
    leb-true (a.at + (a.n + 2)) (length a.out.now) (sym c.has_room.ensures ∙ c.if-not-has_room.false) in
    let a = c.args in starts_two a.out.now a.at a.kind a.n (omega (arith, room))
