-- What is loaded, from any bytes, is a router that the code's types hold: so storing it and loading it again gives the same router.
use Prim.Native.Nat.{ℕ, zero, suc, ◌+◌, ◌*◌}
use mathlib.Core.List.{List, [], ◌∷◌, ◌++◌}
use mathlib.Core.Path.{◌≡◌}
use lib.Dec.{lit<}
use lib.ListN.{get_or, take, drop}
use Rattle.std.specs.Prelude.{Some, None}
use Rattle.octets.specs.Numbers.{Bytes, signed_of}
use Rattle.octets.proofs.BytesLaws.{part_bytes}
use Rattle.octets.proofs.ChoiceLaws.{pick_all}
use Rattle.octets.proofs.NumberLaws.{number_part_small}
use Rattle.octets.proofs.SignedLaws.{signed_small}
use Rattle.position.proofs.PositionLaws.{AngleHeld, PositionHeld}
use Rattle.places.specs.declared.place.Place.{Place}
use Rattle.laid.specs.Field.{flag_of, number_at}
use Rattle.laid.proofs.FieldLaws.{array_long, held_loaded}
use Rattle.storedrouter.specs.Place.{attempt_from, session_from, place_from}
use Rattle.storedrouter.specs.Settings.{angle_from, position_from, settings_from}
use Rattle.storedrouter.specs.Router.{spot, places_from, router_bytes, router_from}
use Rattle.storedrouter.proofs.PlaceLaws.{AttemptHeld, SessionHeld, PlaceHeld, EachHeld}
use Rattle.storedrouter.proofs.SettingsLaws.{SettingsHeld}
use Rattle.storedrouter.proofs.RouterLaws.{RouterHeld, router_undone, places_many}

-- an attempt, a session and an angle
module _ (s : List ℕ) (b : Bytes s) where
  attempt_loaded : AttemptHeld (attempt_from s)
  unfolding attempt_from
  attempt_loaded = record { stamp = number_part_small 8 1 s b; check = array_long 16 9 s }

  session_loaded : SessionHeld (session_from s)
  unfolding session_from
  session_loaded = record { stamp = number_part_small 8 1 s b; check = array_long 16 9 s; key = array_long 16 25 s; since = number_part_small 8 41 s b }

  angle_loaded : AngleHeld (angle_from s)
  unfolding angle_from
  angle_loaded =
      pick_all AngleHeld (flag_of (get_or s 0 0)) (Some (signed_of 32 (number_at 4 1 s))) None
      (λ _. signed_small 32 (number_at 4 1 s) (lit< tt) (number_part_small 4 1 s b)) (λ _. tt)

-- a place
pub place_loaded : (s : List ℕ) → Bytes s → PlaceHeld (place_from s)
unfolding place_from
place_loaded s b =
    record {
      address = array_long 6 1 s;
      last = number_part_small 8 7 s b;
      attempt = attempt_loaded (take 25 (drop 15 s)) (part_bytes 25 15 s b);
      session = session_loaded (take 49 (drop 40 s)) (part_bytes 49 40 s b);
    }

-- one place more
one_more : (ps : List Place) (p : Place) → EachHeld ps → PlaceHeld p → EachHeld (ps ++ (p ∷ []))
one_more [] p h k = (k, tt)
one_more (q ∷ ps) p h k = (h.0, one_more ps p h.1 k)

-- the first n places
places_loaded : (n : ℕ) (s : List ℕ) → Bytes s → EachHeld (places_from n s)
unfolding places_from
places_loaded zero s b = tt
places_loaded (suc n) s b =
    one_more (places_from n s) (place_from (spot n s)) (places_loaded n s b) (place_loaded (spot n s) (part_bytes 89 (379 + n * 89) s b))

-- a position, and the settings
position_loaded : (s : List ℕ) → Bytes s → PositionHeld (position_from s)
unfolding position_from
position_loaded s b =
    record {
      latitude = angle_loaded (take 5 (drop 0 s)) (part_bytes 5 0 s b);
      longitude = angle_loaded (take 5 (drop 5 s)) (part_bytes 5 5 s b);
      sea = signed_small 16 (number_at 2 10 s) (lit< tt) (number_part_small 2 10 s b);
      land = signed_small 16 (number_at 2 12 s) (lit< tt) (number_part_small 2 12 s b);
    }

settings_loaded : (s : List ℕ) → Bytes s → SettingsHeld (settings_from s)
unfolding settings_from
settings_loaded s b =
    record {
      window = number_part_small 4 0 s b;
      unit = number_part_small 4 4 s b;
      lifetime = number_part_small 2 8 s b;
      network = number_part_small 2 10 s b;
      address = array_long 6 12 s;
      ipv4 = array_long 4 18 s;
      secret = held_loaded (take 261 (drop 22 s)) (part_bytes 261 22 s b);
      position = position_loaded (take 14 (drop 283 s)) (part_bytes 14 283 s b);
      interval = number_part_small 2 297 s b;
      groups = array_long 64 299 s;
      grouped = number_part_small 8 363 s b;
    }

module _ (s : List ℕ) (b : Bytes s) where
  -- a router
  pub router_loaded : RouterHeld (router_from s)
  unfolding router_from
  router_loaded =
      record {
        settings = settings_loaded (take 371 (drop 0 s)) (part_bytes 371 0 s b);
        clock = number_part_small 8 371 s b;
        many = places_many 64 s;
        places = places_loaded 64 s b;
      }

  -- whatever the buffer holds
  pub router_kept : router_from (router_bytes (router_from s)) ≡ router_from s
  router_kept = router_undone (router_from s) router_loaded
