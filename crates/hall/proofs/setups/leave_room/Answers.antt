-- `leave_room` meets its contract.
use mathlib.Core.Path.{refl, sym, ◌∙◌}
use Rattle.hall.specs.State.{leaves_room}
use Rattle.hall.proofs.StateLaws.{both_parts}
use borrow.Author.Tests.{le-leb, lt-leb}
use Rattle.octets.proofs.ChoiceLaws.{pick_true, pick_false}
use Rattle.hall.proofs.setups.leave_room.Goals as goal

pub returns-then-room-gt-ROOM : goal.returns-then-room-gt-ROOM
unfolding leaves_room
returns-then-room-gt-ROOM c = c.unread.ensures ∙ sym (pick_false _ _ _ (lt-leb c.args.room 4096 c.if-room-gt-ROOM.true))

pub returns : goal.returns
unfolding leaves_room
returns c = both_parts refl c.silent.ensures ∙ sym (pick_true _ _ _ (le-leb c.args.room 4096 c.if-room-gt-ROOM.false))
