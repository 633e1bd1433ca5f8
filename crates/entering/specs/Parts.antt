-- What the private functions are held to: the access request's fields, what a request has passed before one goes out, and a turn that leaves its place (DECISIONS, 62).
use Rattle.std.specs.Prelude.{ℕ, ◌<◌, ◌≤◌, ◌≡◌, true, List, length}
use Rattle.refusal.specs.declared.Outcome.{Outcome}
use Rattle.object.specs.declared.family.Family.TheVariants.{Misauth}
use Rattle.object.specs.Family.{limit_of}
use Rattle.octets.specs.Part.{bytes_at}
use Rattle.message.specs.Writing.{is_name}
use Rattle.misp.specs.declared.request.Request.{Request}
use Rattle.misp.specs.Request.{RequestValues}
use Rattle.misauth.specs.declared.request.AccessRequestFields.{AccessRequestFields}
use Rattle.places.specs.declared.place.Place.{Place}
use Rattle.places.specs.declared.state.Settings.{Settings}
use Rattle.places.specs.declared.state.Router.{Router}
use Rattle.refusal.specs.Step.{Leaves}
use Rattle.turn.specs.Outcome.{Step, place_of}
use Rattle.turn.specs.OnePlace.{turned_to}
use Rattle.turn.specs.Writes.{asked_values}

-- for `fields_for`: what the writer of access requests takes as one, all but the account
unfoldable pub fields_for : Settings → ℕ → List ℕ → List ℕ → RequestValues → AccessRequestFields
fields_for s i from m v =
    let a = asked_values s i from m v in
    record {
      identifier = a.identifier;
      authentication = a.authentication;
      check = a.check;
      seed = a.seed;
      security = a.security;
      position = a.position;
      router = a.router;
    }

-- for `fields_for` and `write_asked`: what refusal 6 leaves of a request, sizes of its fields
pub record Vouched (m : List ℕ) (v : Request) : Type 0 where
  pub check : length (bytes_at m v.check) ≡ 16
  pub seed : length (bytes_at m v.seed) ≡ 16
  pub name : is_name (bytes_at m v.account) ≡ true

-- for `judge`: and there is room for the answer
pub record Judges (m : List ℕ) (v : Request) (out : List ℕ) : Type 0 where
  pub vouched : Vouched m v
  pub room : limit_of Misauth ≤ length out

-- for `place_for`: and its security list is one number
pub record Asks (m : List ℕ) (v : Request) (out : List ℕ) : Type 0 where
  pub judges : Judges m v out
  pub type : length (bytes_at m v.security) ≡ 2

-- for `place_known` and `ask`: and the place is one of the 64
pub record AsksAt (i : ℕ) (m : List ℕ) (v : Request) (out : List ℕ) : Type 0 where
  pub place : i < 64
  pub asks : Asks m v out

-- for `fail`: a turn after which the place is what it was is a step of every router that has it, at any number
pub record KeepsPlace (p : Place) (step : Router → Step) (t : Outcome Place) (after : List ℕ) : Type 0 where
  pub leaves : (q : Router) (i : ℕ) → place_of i q ≡ p → Leaves (step q) (turned_to q i t) after
