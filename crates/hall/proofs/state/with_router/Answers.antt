-- `with_router` meets its contract.
use mathlib.Core.Bool.{true}
use Rattle.hall.specs.State.{with_router}
use Rattle.hall.proofs.state.with_router.Goals as goal

pub returns : goal.returns
unfolding with_router
returns c = let h = c.args.hall in
    λ j. record { installed = true; router = c.bytes-state.ensures.is j; present = h.present; nodes = h.nodes; lent = h.lent; mill = h.mill; visitors = h.visitors; room = h.room }
