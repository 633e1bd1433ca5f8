-- A request judged at one place: which one, and the routers of which a turn of that place is a step (DECISIONS, 62).
use Rattle.std.specs.Prelude.{ℕ, ◌≡◌, nat_lt, List, length, Option, Some, None}
use Rattle.refusal.specs.declared.Outcome.{Outcome}
use Rattle.object.specs.declared.family.Family.TheVariants.{Misauth}
use Rattle.places.specs.declared.place.Place.{Place}
use Rattle.places.specs.declared.state.Settings.{Settings}
use Rattle.places.specs.declared.state.Router.{Router}
use Rattle.places.specs.State.{find_of, lowest_free}
use Rattle.refusal.specs.Step.{Leaves}
use Rattle.turn.specs.Outcome.{Step, place_of, room_first}
use Rattle.turn.specs.OnePlace.{turned_to}
use Rattle.octets.specs.Choice.{pick}
use Rattle.entering.specs.declared.Seat.{Seat}
use Rattle.entering.specs.declared.Seat.TheVariants.{Known, Free, Full}
use Rattle.entering.specs.Request.{judged_request}

-- for `seat_of`: the place that a request is judged at, its sender's, else the lowest free one, if that is one of the 64
abbrev pub seat_of : Option ℕ → ℕ → Seat
seat_of (Some i) free = Known i
seat_of None free = pick (nat_lt free 64) (Free free) (Full free)

-- for `Seat::number`: the number of that place; where none is free, the number that was given for it
abbrev pub seat_number : Seat → ℕ
seat_number (Known i) = i
seat_number (Free i) = i
seat_number (Full i) = i

-- for `turn_at`: a request at a router that stored the clock and let go of what has lapsed: 20, then 1 to 6 and the rest
unfoldable pub requested_now : Router → ℕ → List ℕ → List ℕ → List ℕ → Step
requested_now q now from m out = room_first Misauth q out (judged_request q now from m out)

-- a router with these settings, where the sender has this seat, and the place there is p
pub record Sits (settings : Settings) (seat : Seat) (p : Place) (from : List ℕ) (q : Router) : Type 0 where
  pub same : q.settings ≡ settings
  pub whole : length q.places ≡ 64
  pub found : seat_of (find_of q.places from) (lowest_free q.places) ≡ seat
  pub here : place_of (seat_number seat) q ≡ p

-- a turn of that place is a step of every such router
pub record Seated (settings : Settings) (seat : Seat) (p : Place) (from : List ℕ) (step : Router → Step) (t : Outcome Place) (after : List ℕ) : Type 0 where
  pub leaves : (q : Router) → Sits settings seat p from q → Leaves (step q) (turned_to q (seat_number seat) t) after
