-- What a router is set up with, in 371 bytes (docs/BOUNDARY.md).
use Rattle.std.specs.Prelude.{ℕ, List, [], ◌∷◌, take, drop, true, false, slice_index, ℤ, Option, Some, None}
use Rattle.octets.specs.Choice.{pick}
use Rattle.octets.specs.Numbers.{bytes_of, signed_of, unsigned_of}
use Rattle.position.specs.declared.Position.{Position}
use Rattle.places.specs.declared.state.Settings.{Settings}
use Rattle.laid.specs.Field.{joined, flag_bytes, flag_of, number_at, array_at, held_stored, held_from}

-- an angle: a flag and its number, or a flag that is not set and 0 where it is missing (every number of 32 bits is kept, also the one that a message cannot say)
unfoldable pub angle_bytes : Option ℤ → List ℕ
angle_bytes None = joined (flag_bytes false ∷ bytes_of 4 0 ∷ [])
angle_bytes (Some z) = joined (flag_bytes true ∷ bytes_of 4 (unsigned_of 32 z) ∷ [])

-- .. and read again
unfoldable pub angle_from : List ℕ → Option ℤ
angle_from s = pick (flag_of (slice_index s 0)) (Some (signed_of 32 (number_at 4 1 s))) None

-- a position: two angles and two heights
unfoldable pub position_stored : Position → List ℕ
position_stored p =
    joined (angle_bytes p.latitude ∷ angle_bytes p.longitude ∷ bytes_of 2 (unsigned_of 16 p.sea) ∷ bytes_of 2 (unsigned_of 16 p.land) ∷ [])

-- .. and read again
unfoldable pub position_from : List ℕ → Position
position_from s =
    record {
      latitude = angle_from (take 5 (drop 0 s));
      longitude = angle_from (take 5 (drop 5 s));
      sea = signed_of 16 (number_at 2 10 s);
      land = signed_of 16 (number_at 2 12 s);
    }

-- the settings, in the order of their record
unfoldable pub settings_bytes : Settings → List ℕ
settings_bytes v =
    joined (
    bytes_of 4 v.window
    ∷ bytes_of 4 v.unit
    ∷ bytes_of 2 v.lifetime
    ∷ bytes_of 2 v.network
    ∷ v.address
    ∷ v.ipv4
    ∷ held_stored v.secret
    ∷ position_stored v.position
    ∷ bytes_of 2 v.interval
    ∷ v.groups
    ∷ bytes_of 8 v.grouped
    ∷ []
    )

-- .. and read again
unfoldable pub settings_from : List ℕ → Settings
settings_from s =
    record {
      window = number_at 4 0 s;
      unit = number_at 4 4 s;
      lifetime = number_at 2 8 s;
      network = number_at 2 10 s;
      address = array_at 6 12 s;
      ipv4 = array_at 4 18 s;
      secret = held_from (take 261 (drop 22 s));
      position = position_from (take 14 (drop 283 s));
      interval = number_at 2 297 s;
      groups = array_at 64 299 s;
      grouped = number_at 8 363 s;
    }
