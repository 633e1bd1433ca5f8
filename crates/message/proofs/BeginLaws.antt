-- How a call begins, whoever makes it: 20 where its output is too small, 7 past it where the clock is back, whatever follows.
use Prim.Native.Nat.{ℕ, ◌<◌, ◌≤◌}
use mathlib.Core.Path.{◌≡◌}
use lib.Dec.{ltb}
use borrow.Author.Tests.{lt-ltb, le-ltb}
use Rattle.octets.specs.Choice.{pick}
use Rattle.refusal.specs.Step.{StepOf, Leaves}
use Rattle.refusal.proofs.StepLaws.{leaves_told}

-- of a call that can write a message: its output has `room` bytes and must have `limit`; at 20 it leaves `small`, past that `rest` follows
module _ {O : Type 0} (small rest : StepOf O) {room limit : ℕ} {o : O} where
  -- 20
  pub room_small : room < limit → o ≡ small.outcome → Leaves (pick (ltb room limit) small rest) o small.out
  room_small h e = rw (lt-ltb _ _ h) (leaves_told e)

  -- 7, past it: it leaves `back`
  pub room_back : (back : StepOf O) {clock stored : ℕ} → limit ≤ room → clock < stored → o ≡ back.outcome
      → Leaves (pick (ltb room limit) small (pick (ltb clock stored) back rest)) o back.out
  room_back back h k e = rw (le-ltb _ _ h, lt-ltb _ _ k) (leaves_told e)

-- 7, of a call that writes nothing
pub clock_behind : {O : Type 0} (back rest : StepOf O) {clock stored : ℕ} → clock < stored → back.outcome ≡ (pick (ltb clock stored) back rest).outcome
clock_behind back rest k = rw (lt-ltb _ _ k)
