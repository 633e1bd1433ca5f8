-- What a call makes of one place: small, where an outcome holds the whole state (DECISIONS, 53 and 62).
use Rattle.std.specs.Prelude.{ℕ, ◌≡◌, List}
use Rattle.refusal.specs.declared.Outcome.{Outcome}
use Rattle.places.specs.declared.place.Place.{Place}
use Rattle.places.specs.declared.state.Router.{Router}
use Rattle.places.specs.declared.state.Settings.{Settings}
use Rattle.refusal.specs.Step.{Leaves}
use Rattle.turn.specs.Outcome.{Step, place_of, with_place}

-- the outcome of a turn, of a router whose place i it is
abbrev pub turned_to : Router → ℕ → Outcome Place → Outcome Router
turned_to q i t = record { answer = t.answer; state = with_place i t.state q; written = t.written; to = t.to }

-- a turn of place p is a step of every router that has these settings and this place at i
pub record Turns (settings : Settings) (i : ℕ) (p : Place) (step : Router → Step) (t : Outcome Place) (after : List ℕ) : Type 0 where
  pub leaves : (q : Router) → q.settings ≡ settings → place_of i q ≡ p → Leaves (step q) (turned_to q i t) after
