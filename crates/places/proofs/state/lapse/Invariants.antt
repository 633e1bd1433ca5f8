-- `lapse` meets its contract. The invariant: the places below i have lapsed.
use Prim.Native.Nat.{◌≤◌}
use mathlib.Core.Path.{◌≡◌}
use mathlib.Core.List.{List}
use lib.ListN.{length}
use Rattle.places.specs.declared.place.Place.{Place}
use Rattle.places.specs.declared.state.Router.{Router}
use Rattle.places.specs.Place.{place_at}
use Rattle.places.proofs.MapLaws.{up_to}
use Rattle.places.proofs.state.lapse.Given as goal

-- a router with other places
abbrev pub with_places : Router → List Place → Router
with_places r places = record { settings = r.settings; clock = r.clock; places = places }

abbrev pub invariant-loop-i : goal.invariant-loop-i
invariant-loop-i l = (l.i ≤ 64)
    × (length l.initial.q.places ≡ 64)
    × (l.q ≡ with_places l.initial.q (up_to (place_at l.now l.initial.q.settings.window l.initial.q.settings.lifetime l.initial.q.settings.unit) l.initial.q.places l.i))
