-- What the functions below the calls are held to: a turn of the place that an address has, at a router that stored the clock
-- (DECISIONS, 62).
use Rattle.std.specs.Prelude.{ℕ, ◌≡◌, List, length, Option, Some, None}
use Rattle.refusal.specs.declared.Outcome.{Outcome}
use Rattle.object.specs.declared.family.Family.TheVariants.{Misp}
use Rattle.places.specs.declared.place.Place.{Place}
use Rattle.places.specs.declared.state.Router.{Router}
use Rattle.places.specs.declared.state.Settings.{Settings}
use Rattle.places.specs.State.{find_of}
use Rattle.refusal.specs.Step.{Leaves}
use Rattle.turn.specs.Outcome.{Step, place_of, room_first}
use Rattle.turn.specs.OnePlace.{turned_to}
use Rattle.router.specs.Close.{close_at}

-- the number of the place that an address has; 64, past the last one, where it has none
abbrev pub place_number : Option ℕ → ℕ
place_number None = 64
place_number (Some i) = i

-- a turn of the place that an address has (the fresh one where it has none) is a step of every router of 64 places that has these settings and this place
-- for the address
pub record TurnsFor (settings : Settings) (address : List ℕ) (p : Place) (step : Router → Step) (t : Outcome Place) (after : List ℕ) : Type 0 where
  pub leaves : (q : Router) (i : ℕ) → q.settings ≡ settings → length q.places ≡ 64 → i ≡ place_number (find_of q.places address) → place_of i q ≡ p
      → Leaves (step q) (turned_to q i t) after

-- `close_turn`: a terminating message of ours, 20 and 21
abbrev pub closing_now : Router → List ℕ → List ℕ → Step
closing_now q to out = room_first Misp q out (close_at (find_of q.places to) q to out)
