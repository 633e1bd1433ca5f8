-- The trailing zeros of the inverted word.
use Rattle.places.proofs.WordLaws.{trailing_zeros}
use Rattle.storedrouter.specs.Router.{router_from}
use Rattle.inplace.proofs.SpotLaws.{router_many}
use Rattle.inplace.proofs.reading.free_place.Goals as goal

pub returns : goal.returns
returns c =
    let s = c.args.state.now in
    rw c.occupancy.ensures (rw (router_many s) at (trailing_zeros (router_from s).places))
