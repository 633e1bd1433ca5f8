-- `places_from` meets its contract: each place is the one at its spot.
use Rattle.std.proofs.Common.{rules, ◌≡◌}
use borrow.Author.Tests.{tests}
use Rattle.places.specs.Place.{no_place}
use Rattle.storedrouter.specs.Place.{place_from}
use Rattle.storedrouter.specs.Router.{spot}
use Rattle.storedrouter.proofs.MadeLaws.{made_all}
use Rattle.storedrouter.proofs.RouterLaws.{places_many, place_among}
use Rattle.storedrouter.proofs.router_state.places_from.Goals as goal

pub returns : goal.returns
returns c =
    let s = c.args.s.now in
    let made = c.from_fn.ensures.items in
    made_all _ _ (λ i. place_from (spot i s))
    (λ i p q k. let h : (q ≡ _) × (p ≡ place_from (spot i s)) = search (rules, tests) in h)
    no_place made.long (places_many 64 s) made.each (λ i few. place_among 64 i s no_place few)
