-- A step of the router (the paper, 'How much the contracts say'; what is handed back: DECISIONS, 30; how a call begins: DECISIONS, 67).
use Rattle.std.specs.Prelude.{ℕ, List, set, nat_lt, slice_index_or}
use Rattle.refusal.specs.declared.Outcome.{Outcome}
use Rattle.octets.specs.Choice.{pick}
use Rattle.object.specs.declared.family.Family.{Family}
use Rattle.object.specs.Family.{is_small}
use Rattle.refusal.specs.declared.Refusal.TheVariants.{SmallOutput, ClockBack}
use Rattle.refusal.specs.Step.{StepOf, refused_with}
use Rattle.places.specs.declared.place.Place.{Place}
use Rattle.places.specs.declared.state.Router.{Router}
use Rattle.places.specs.Place.{fresh_place}
use Rattle.places.specs.State.{lapsed_at}

-- what a router's call hands back, and every byte of the lent buffer
abbrev pub Step : Type 0
Step = StepOf (Outcome Router)

-- the place with a number; past the last one the fresh place (DECISIONS, 55)
unfoldable pub place_of : ℕ → Router → Place
place_of i r = slice_index_or r.places i fresh_place

-- the state with another place at a number; past the last one nothing changes (DECISIONS, 55)
unfoldable pub with_place : ℕ → Place → Router → Router
with_place i p r = record { settings = r.settings; clock = r.clock; places = set r.places i p }

-- 20, of a call that can write a message of this family (DECISIONS, 31); past it the rest
abbrev pub room_first : Family → Router → List ℕ → Step → Step
room_first f r out rest = pick (is_small f out) (refused_with SmallOutput r out) rest

-- 7; past it 'the clock .. is stored, and what has lapsed goes'
abbrev pub clocked : Router → ℕ → List ℕ → (Router → Step) → Step
clocked r now out go = pick (nat_lt now r.clock) (refused_with ClockBack r out) (go (lapsed_at now r))

-- 20, then 7
abbrev pub in_room : Family → Router → ℕ → List ℕ → (Router → Step) → Step
in_room f r now out go = room_first f r out (clocked r now out go)
