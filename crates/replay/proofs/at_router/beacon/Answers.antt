-- `beacon` stays within what it is lent, and ends.
use mathlib.Core.Path.{sym, ◌∙◌}
use native.Mathlib.Omega.{arith}
use Rattle.asked.proofs.ArgumentLaws.{up_to_most_law}
use Rattle.replay.proofs.at_router.beacon.Goals as goal

pub overflow_cast-serial : goal.overflow_cast-serial
overflow_cast-serial c = let h = up_to_most_law 65535 c.in-Some.serial _ (sym c.number_to.ensures ∙ c.in-Some.is) in omega arith
