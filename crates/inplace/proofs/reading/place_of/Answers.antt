-- Past the last place stands the fresh one; what the bytes at a place's spot are read as, the laws beside the function say.
use Rattle.std.proofs.Common.{arith, sym, ◌∙◌}
use lib.ListN.{get_or-eq_default}
use Rattle.places.specs.Place.{fresh_place}
use Rattle.storedrouter.specs.Router.{router_from}
use Rattle.turn.specs.Outcome.{place_of}
use Rattle.inplace.proofs.SpotLaws.{router_many}
use Rattle.inplace.proofs.reading.place_of.Goals as goal

pub returns-else-i-lt-COUNT : goal.returns-else-i-lt-COUNT
unfolding place_of
returns-else-i-lt-COUNT c =
    let s = c.args.state.now in
    let many = router_many s in
    c.fresh.ensures ∙ sym (get_or-eq_default (router_from s).places fresh_place {n = c.args.i} (omega arith))
