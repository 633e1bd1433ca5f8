-- Of no places the word is 0.
use Rattle.std.proofs.Common.{arith}
use Rattle.places.proofs.WordLaws.{word_none}
use Rattle.storedrouter.specs.Router.{router_from}
use Rattle.inplace.proofs.SpotLaws.{router_many}
use Rattle.inplace.proofs.reading.occupancy.Goals as goal

pub loop-i-init : goal.loop-i-init
loop-i-init c =
    let s = c.args.state.now in
    let many = router_many s in
    (omega arith, word_none (router_from s).places 64 (omega arith))
