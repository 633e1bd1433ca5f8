-- Position (the paper, 'MISP messages'; document 001, 4.4.8; document 003, 4.9).
use Rattle.std.specs.Prelude.{ℕ, ℤ, Bool, true, List, ◌++◌, take, drop, ◌==◌, Option, Some, None}
use Rattle.octets.specs.Choice.{pick, both, flip}
use Rattle.octets.specs.Numbers.{number_of, bytes_of, signed_of, unsigned_of}
use Rattle.position.specs.declared.Position.{Position}

-- '0x80000000 means none'
abbrev pub no_angle : ℕ
no_angle = 0x80000000

-- latitude and longitude are signed, in 1/65,536 degree
unfoldable pub angle_of : ℕ → Option ℤ
angle_of n = pick (n == no_angle) None (Some (signed_of 32 n))

-- and back: a missing one is the mark
unfoldable pub angle_number : Option ℤ → ℕ
angle_number None = no_angle
angle_number (Some z) = unsigned_of 32 z

-- latitude, longitude, and the two heights as signed 16-bit metres, every one of which is a height (DECISIONS, 16)
unfoldable pub position_of : List ℕ → Position
position_of v =
    record {
      latitude = angle_of (number_of (take 4 v));
      longitude = angle_of (number_of (take 4 (drop 4 v)));
      sea = signed_of 16 (number_of (take 2 (drop 8 v)));
      land = signed_of 16 (number_of (take 2 (drop 10 v)));
    }

-- the value of objects 9 and 204
unfoldable pub position_bytes : Position → List ℕ
position_bytes p =
    bytes_of 4 (angle_number p.latitude) ++ (bytes_of 4 (angle_number p.longitude)
    ++ (bytes_of 2 (unsigned_of 16 p.sea) ++ bytes_of 2 (unsigned_of 16 p.land)))

-- an angle equal to the mark for none cannot be said
unfoldable pub can_say : Option ℤ → Bool
can_say None = true
can_say (Some z) = flip (unsigned_of 32 z == no_angle)

-- 18 where a position cannot be said (DECISIONS, 19)
unfoldable pub in_range : Position → Bool
in_range p = both (can_say p.latitude) (can_say p.longitude)
