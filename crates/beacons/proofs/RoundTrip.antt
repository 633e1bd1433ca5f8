-- What is written is read: a beacon's bytes, with any bytes after them, are read as the very fields they were made of.
-- Asked of the fields: `beacon_in_range`, so that the writer does not refuse them, and `BeaconTyped`, what the types of its arguments say of
-- every value they can have. No beacon passes 1,500 bytes, whatever its fields are (`beacon_fits`).
use Prim.Native.Nat.{ℕ, ◌^◌, ◌≤◌, ◌<◌}
use mathlib.Core.Path.{◌≡◌, refl, ◌∙◌}
use mathlib.Core.Bool.{true}
use mathlib.Core.List.{List, ◌++◌}
use lib.Dec.{lit≤}
use lib.ListN.{length, drop}
use Rattle.std.specs.Prelude.{Ok}
use Rattle.octets.proofs.ChoiceLaws.{in_turn}
use Rattle.octets.proofs.NumberLaws.{number_back}
use Rattle.octets.specs.Choice.{both, every}
use Rattle.object.specs.declared.family.Family.TheVariants.{Misp}
use Rattle.object.specs.Family.{limit_of}
use Rattle.message.specs.Reading.{fits_in}
use Rattle.message.specs.Writing.{is_list, is_below, Writes}
use Rattle.message.proofs.CarriedLaws.{form_short, carries, carried_vetted, carried_value, carried_optional}
use Rattle.message.proofs.ValueLaws.{below_more}
use Rattle.message.proofs.WroteLaws.{wrote_left}
use Rattle.beacons.specs.Beacon.{beacon_types, read_beacon, BeaconValues, beacon_told, beacon_bytes, position_in_range, extras_at, extras_in_range, beacon_in_range}
use Rattle.beacons.proofs.BeaconLaws.{PositionTyped, UplinkTyped, beacon_form, beacon_proper, beacon_in, beacon_told_law, carried_position, carried_uplink}

-- what the types of the writer's arguments hold: a 64-bit stamp, a 16-bit serial and interval;
-- of a position and an uplink that are given, what theirs hold
pub record BeaconTyped (v : BeaconValues) : Type 0 where
  pub stamp : v.stamp < 2 ^ 64
  pub serial : v.serial < 2 ^ 16
  pub interval : v.interval < 2 ^ 16
  pub position : PositionTyped v.extras.position
  pub uplink : UplinkTyped v.extras.uplink

-- never over 1,500 bytes
pub beacon_fits : (v : BeaconValues) → length (beacon_bytes v) ≤ limit_of Misp
beacon_fits v = form_short (beacon_form v)

-- read back, whatever bytes follow
pub beacon_trip : (v : BeaconValues) → beacon_in_range v ≡ true → BeaconTyped v → (more : List ℕ)
    → beacon_told (beacon_bytes v ++ more) (read_beacon (beacon_bytes v ++ more)) ≡ Ok v
unfolding beacon_in_range extras_in_range beacon_in extras_at every fits_in
beacon_trip v range typed more =
    let e = v.extras in
    let channel_below = is_below e.channel (2 ^ 8) in
    let from_filter = both (is_below e.filter 2) channel_below in
    let from_left = both (is_below e.left (2 ^ 8)) from_filter in
    let extras = both (position_in_range e.position) from_left in
    let from_layers = both (is_list 2 v.layers) extras in
    let from_security = both (is_list 2 v.security) from_layers in
    let (groups, rest) = in_turn (is_list 4 v.groups) from_security range in
    let (security, rest) = in_turn (is_list 2 v.security) from_layers rest in
    let (layers, rest) = in_turn (is_list 2 v.layers) extras rest in
    let (position, rest) = in_turn (position_in_range e.position) from_left rest in
    let (left, rest) = in_turn (is_below e.left (2 ^ 8)) from_filter rest in
    let (filter, channel) = in_turn (is_below e.filter 2) channel_below rest in
    let c = carries (beacon_form v) (beacon_proper v groups security layers filter) more in
    beacon_told_law (beacon_bytes v ++ more)
    ∙ rw (
      carried_vetted c beacon_types refl refl,
      carried_value c 2,
      carried_value c 14,
      carried_value c 16,
      carried_value c 17,
      carried_value c 18,
      carried_value c 21,
      carried_position v c position typed.position,
      carried_optional c 10 1 e.left refl left (lit≤ tt),
      carried_optional c 11 1 e.filter refl (below_more e.filter 2 256 filter (lit≤ tt)) (lit≤ tt),
      carried_uplink v c typed.uplink,
      carried_optional c 20 1 e.channel refl channel (lit≤ tt),
      number_back 8 8 v.stamp typed.stamp (lit≤ tt),
      number_back 2 2 v.serial typed.serial (lit≤ tt),
      number_back 2 2 v.interval typed.interval (lit≤ tt),
    )

-- where the writer answers with a number of bytes, what it leaves in the lent buffer is read as the fields that it was given
module _ {before after : List ℕ} {n : ℕ} where
  pub beacon_left : (v : BeaconValues) → BeaconTyped v → Writes Misp (beacon_in_range v) (beacon_bytes v) before after (Ok n)
      → beacon_told after (read_beacon after) ≡ Ok v
  beacon_left v typed w = rw (wrote_left w).starts (beacon_trip v (wrote_left w).range typed (drop (length (beacon_bytes v)) before))
