-- A router's call over a state that the caller lends as bytes (docs/BOUNDARY.md): the shell of every call, with what the router's definitions say.
use Rattle.std.specs.Prelude.{ℕ, ◌≡◌, List, Result}
use Rattle.places.specs.declared.place.Place.{Place}
use Rattle.refusal.specs.declared.Outcome.{Outcome}
use Rattle.refusal.specs.declared.Refusal.{Refusal}
use Rattle.handed.specs.Code.{coded, addressed}
use Rattle.shell.specs.Shell.{Party, LeavesLent, EndsLent, SetsUp}
use Rattle.places.specs.declared.state.Router.{Router}
use Rattle.turn.specs.Outcome as router_call
use Rattle.turn.specs.Outcome.{with_place}
use Rattle.storedrouter.specs.Router.{router_bytes, router_from, router_size, RouterStored}
use Rattle.inplace.specs.Change.{Holds}

-- a router's state as bytes
abbrev pub router_party : Party Router
router_party = record { size = router_size; bytes = router_bytes; from = router_from }

-- a step of a router, whose state is changed where it stands: every byte is settled where the buffer had a stored router
abbrev pub RouterLeaves : List ℕ → List ℕ → List ℕ → router_call.Step → ℕ → List ℕ → List ℕ → List ℕ → Type 0
RouterLeaves state out to s = LeavesLent (RouterStored state) router_party state out to s.outcome s.out

-- .. without an output
abbrev pub RouterEnds : List ℕ → router_call.Step → ℕ → List ℕ → Type 0
RouterEnds state s = EndsLent (RouterStored state) router_party state s.outcome

-- setup leaves what the shell says
abbrev pub RouterSetsUp : List ℕ → Result Router Refusal → ℕ → List ℕ → Type 0
RouterSetsUp state made = SetsUp router_party state made

-- for `end_turn`: a turn of place i is over, the place is put, the address handed out where there is one, the rest told in one number
pub record EndsTurn (t : Outcome Place) (i : ℕ) (state to : List ℕ) (number : ℕ) (after given : List ℕ) : Type 0 where
  pub told : number ≡ coded t.answer t.to t.written
  pub kept : Holds state after (with_place i t.state (router_from state))
  pub sent : given ≡ addressed t.to to
