-- What the code's types say of a router and of what stands in it: every number is within its width, and every array is whole.
use mathlib.Core.List.{List, [], ◌∷◌}
use mir.Val.{Val}
use denote.Shadow.{shadow}
use denote.Array.{each}
use denote.Builtin.{i32}
use Rattle.std.specs.Prelude.{ℤ, Option, Some, None}
use Rattle.position.specs.declared.Position.{Position}
use Rattle.position.proofs.PositionLaws.{AngleHeld, PositionHeld}
use Rattle.std.specs.contracts.option.Option as option
use Rattle.position.specs.contracts.Position as position_type
use Rattle.places.specs.declared.place.Attempt.{Attempt}
use Rattle.places.specs.declared.place.Session.{Session}
use Rattle.places.specs.declared.place.Place.{Place}
use Rattle.places.specs.declared.state.Settings.{Settings}
use Rattle.places.specs.declared.state.Router.{Router}
use Rattle.places.specs.contracts.place.Attempt as attempt_type
use Rattle.places.specs.contracts.place.Session as session_type
use Rattle.places.specs.contracts.place.Place as place_type
use Rattle.places.specs.contracts.state.Settings as settings_type
use Rattle.places.specs.contracts.state.Router as router_type
use Rattle.laid.proofs.TypeLaws.{Typed, held_typed}
use Rattle.storedrouter.proofs.PlaceLaws.{AttemptHeld, SessionHeld, PlaceHeld, EachHeld}
use Rattle.storedrouter.proofs.SettingsLaws.{SettingsHeld}
use Rattle.storedrouter.proofs.RouterLaws.{RouterHeld}

pub attempt_typed : (a : Attempt) (vs : List Val) → Typed attempt_type.the_field a vs → AttemptHeld a
attempt_typed a vs s = record { stamp = s.1.1.1.0.1; check = s.1.1.1.1.0.1.0.1 }

pub session_typed : (v : Session) (vs : List Val) → Typed session_type.the_field v vs → SessionHeld v
session_typed v vs s =
    record {
      stamp = s.1.1.1.0.1;
      check = s.1.1.1.1.0.1.0.1;
      key = s.1.1.1.1.1.0.1.0.1;
      since = s.1.1.1.1.1.1.0.1;
    }

pub place_typed : (p : Place) (vs : List Val) → Typed place_type.the_field p vs → PlaceHeld p
place_typed p vs s =
    record {
      address = s.1.1.1.0.1.0.1;
      last = s.1.1.1.1.0.1;
      attempt = attempt_typed p.attempt _ s.1.1.1.1.1.0;
      session = session_typed p.session _ s.1.1.1.1.1.1.0;
    }

each_typed : (ps : List Place) (us : List Val)
    → shadow (each (place_type.the_row).Denot (place_type.the_row).own_val ps us)
    → EachHeld ps
each_typed [] us s = tt
each_typed (p ∷ ps) [] s = absurd s
each_typed (p ∷ ps) (u ∷ us) s = (place_typed p (u ∷ []) s.0, each_typed ps us s.1)

angle_typed : (a : Option ℤ) (vs : List Val) → Typed (option.the_field i32) a vs → AngleHeld a
angle_typed None vs s = tt
angle_typed (Some z) vs s = s.1.1.1.1.0.1

pub position_typed : (p : Position) (vs : List Val) → Typed position_type.the_field p vs → PositionHeld p
position_typed p vs s =
    record {
      latitude = angle_typed p.latitude _ s.1.1.0;
      longitude = angle_typed p.longitude _ s.1.1.1.0;
      sea = s.1.1.1.1.0.1;
      land = s.1.1.1.1.1.0.1;
    }

pub settings_typed : (v : Settings) (vs : List Val) → Typed settings_type.the_field v vs → SettingsHeld v
settings_typed v vs s =
    let window = s.1.1 in
    let lifetime = window.1.1 in
    let address = lifetime.1.1 in
    let secret = address.1.1 in
    let interval = secret.1.1 in
    record {
      window = window.0.1;
      unit = window.1.0.1;
      lifetime = lifetime.0.1;
      network = lifetime.1.0.1;
      address = address.0.1.0.1;
      ipv4 = address.1.0.1.0.1;
      secret = held_typed v.secret _ secret.0;
      position = position_typed v.position _ secret.1.0;
      interval = interval.0.1;
      groups = interval.1.0.1.0.1;
      grouped = interval.1.1.0.1;
    }

pub router_typed : (r : Router) (vs : List Val) → Typed router_type.the_field r vs → RouterHeld r
router_typed r vs s =
    let places = s.1.1.1.1.0 in
    record {
      settings = settings_typed r.settings _ s.1.1.0;
      clock = s.1.1.1.0.1;
      many = places.1.0.1;
      places = each_typed r.places places.0 places.1.1;
    }
