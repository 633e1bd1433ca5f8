-- The beacon message: its objects as runs, and its fields as the values of objects.
use Prim.Native.Nat.{ℕ, ◌^◌, ◌<◌}
use mathlib.Core.Path.{◌≡◌, refl, ap, ◌∙◌}
use mathlib.Core.Bool.{true}
use mathlib.Core.List.{List, [], ◌∷◌, append-nil}
use native.Mathlib.Omega.{arith}
use lib.Dec.{lit≤}
use lib.ListN.{length, length-append}
use Rattle.std.specs.Prelude.{Ok, Err, Option, Some, None}
use Rattle.position.specs.declared.Position.{Position}
use Rattle.octets.specs.Numbers.{bytes_of}
use Rattle.octets.proofs.NumberLaws.{bytes_length, number_back}
use Rattle.object.specs.declared.family.Family.TheVariants.{Misp}
use Rattle.object.specs.Rule.{rule_of, rule_of_misp}
use Rattle.position.proofs.PositionLaws.{PositionHeld, position_length, position_bytes_law}
use Rattle.message.specs.Reading.{length_of, vetted, by_vetted}
use Rattle.message.specs.Field.{value_in, number_in}
use Rattle.message.specs.Writing.{perhaps, optional_value, is_below, is_list}
use Rattle.message.proofs.RunLaws.{Run, run, one, RunsProper, runs_size}
use Rattle.message.proofs.CarriedLaws.{Form, Carries, carried_perhaps}
use Rattle.message.proofs.PartLaws.{at_part}
use Rattle.message.proofs.ToldLaws.{told_vetted}
use Rattle.message.proofs.ValueLaws.{proper_number, proper_list, EachOf, each_fixed, perhaps_size, optional_size, proper_optional, proper_flag}
use Rattle.beacons.specs.declared.beacon.Uplink.{Uplink}
use Rattle.beacons.specs.declared.beacon.Extras.{Extras}
use Rattle.beacons.specs.Beacon.{beacon_types, position_field_of, position_in, uplink_of, uplink_bytes, uplink_field_of, uplink_in, extras_at, beacon_at, read_beacon, BeaconValues, beacon_values, beacon_told, position_value, uplink_value, extra_objects, beacon_bytes, position_in_range}

-- what the code's types hold of a position that may be missing
abbrev pub PositionTyped : Option Position → Type 0
PositionTyped None = Unit
PositionTyped (Some p) = PositionHeld p

-- object 9 has a value of 12 bytes
pub position_each : (p : Option Position) → EachOf 12 (perhaps (position_value p))
position_each None = tt
position_each (Some p) = (position_length p, tt)

-- it is read back from its value
position_back : (p : Option Position) → position_in_range p ≡ true → PositionTyped p → position_field_of (position_value p) ≡ p
position_back None e h = refl
position_back (Some p) e h = ap Some (position_bytes_law p e h)

-- the same of an uplink: three numbers of 16 bits
abbrev pub UplinkTyped : Option Uplink → Type 0
UplinkTyped None = Unit
UplinkTyped (Some u) = (u.line < 2 ^ 16) × (u.up < 2 ^ 16) × (u.down < 2 ^ 16)

-- six bytes
pub uplink_length : (u : Uplink) → length (uplink_bytes u) ≡ 6
unfolding uplink_bytes
uplink_length u = simp (length-append, bytes_length)

-- object 19 has a value of 6 bytes
pub uplink_each : (u : Option Uplink) → EachOf 6 (perhaps (uplink_value u))
uplink_each None = tt
uplink_each (Some u) = (uplink_length u, tt)

-- it is read back from its value
uplink_back : (u : Option Uplink) → UplinkTyped u → uplink_field_of (uplink_value u) ≡ u
unfolding uplink_of uplink_bytes bytes_of
uplink_back None h = refl
uplink_back (Some u) h =
    ap Some
    (rw (number_back 2 2 u.line h.0 (lit≤ tt), number_back 2 2 u.up h.1 (lit≤ tt), number_back 2 2 u.down h.2 (lit≤ tt)))

-- the optional objects by rising type
abbrev extra_runs : Extras → List Run
extra_runs e =
    run 9 (perhaps (position_value e.position)) ∷ run 10 (perhaps (optional_value 1 e.left))
    ∷ run 11 (perhaps (optional_value 1 e.filter)) ∷ run 19 (perhaps (uplink_value e.uplink))
    ∷ run 20 (perhaps (optional_value 1 e.channel)) ∷ []

-- all objects in the writer's order
abbrev beacon_runs : BeaconValues → List Run
beacon_runs v =
    one 2 (bytes_of 8 v.stamp) ∷ one 14 v.groups ∷ one 16 (bytes_of 2 v.serial) ∷ one 17 (bytes_of 2 v.interval)
    ∷ one 18 v.security ∷ one 21 v.layers ∷ extra_runs v.extras

-- a beacon's bytes are the message of these runs, and not too many
pub beacon_form : (v : BeaconValues) → Form Misp 1 0 (beacon_runs v) (beacon_bytes v)
unfolding beacon_bytes extra_objects bytes_of
beacon_form v =
    let e = v.extras in
    record {
      is = rw append-nil;
      room = omega (
        arith,
        runs_size (beacon_runs v),
        perhaps_size 12 (position_value e.position) (position_each e.position),
        optional_size 1 e.left,
        optional_size 1 e.filter,
        perhaps_size 6 (uplink_value e.uplink) (uplink_each e.uplink),
        optional_size 1 e.channel,
      );
    }

-- with three lists, and a filter of 0 or 1
pub beacon_proper : (v : BeaconValues) → is_list 4 v.groups ≡ true → is_list 2 v.security ≡ true → is_list 2 v.layers ≡ true
    → is_below v.extras.filter 2 ≡ true → RunsProper Misp (beacon_runs v)
unfolding rule_of rule_of_misp
beacon_proper v groups security layers filter =
    let e = v.extras in (
      (proper_number 8 v.stamp refl (lit≤ tt), tt),
      (
        (proper_list 4 v.groups groups refl, tt),
        (
          (proper_number 2 v.serial refl (lit≤ tt), tt),
          (
            (proper_number 2 v.interval refl (lit≤ tt), tt),
            (
              (proper_list 2 v.security security refl, tt),
              (
                (proper_list 2 v.layers layers refl, tt),
                (
                  each_fixed Misp 9 12 (perhaps (position_value e.position)) refl (lit≤ tt) (position_each e.position),
                  (
                    proper_optional Misp 10 1 e.left refl (lit≤ tt),
                    (
                      proper_flag Misp 11 e.filter refl filter,
                      (
                        each_fixed Misp 19 6 (perhaps (uplink_value e.uplink)) refl (lit≤ tt) (uplink_each e.uplink),
                        (proper_optional Misp 20 1 e.channel refl (lit≤ tt), tt),
                      ),
                    ),
                  ),
                ),
              ),
            ),
          ),
        ),
      ),
    )

-- the fields as the values of the objects that count
unfoldable pub beacon_in : ℕ → List ℕ → BeaconValues
beacon_in end m =
    beacon_values (number_in Misp 2 8 end m) (value_in Misp 14 end m) (number_in Misp 16 2 end m)
    (number_in Misp 17 2 end m) (value_in Misp 18 end m) (value_in Misp 21 end m) (extras_at end m)

-- what the reader's answer says, by the values of the objects
pub beacon_told_law : (m : List ℕ) → beacon_told m (read_beacon m) ≡ by_vetted (vetted Misp 1 beacon_types m) Err λ end. Ok (beacon_in end m)
unfolding beacon_told read_beacon beacon_at beacon_in
beacon_told_law m = told_vetted (beacon_told m) (vetted Misp 1 beacon_types m) Err (λ end. Ok (beacon_at end m)) ∙ simp at_part

module _ (v : BeaconValues) {m : List ℕ} (c : Carries Misp 1 0 (beacon_runs v) m) where
  -- the position is read back
  pub carried_position : position_in_range v.extras.position ≡ true → PositionTyped v.extras.position
      → position_in (length_of m) m ≡ v.extras.position
  unfolding position_in
  carried_position e h =
      let p = v.extras.position in ap position_field_of (carried_perhaps c 9 (position_value p) refl) ∙ position_back p e h

  -- the uplink is read back
  pub carried_uplink : UplinkTyped v.extras.uplink → uplink_in (length_of m) m ≡ v.extras.uplink
  unfolding uplink_in
  carried_uplink h = let u = v.extras.uplink in ap uplink_field_of (carried_perhaps c 19 (uplink_value u) refl) ∙ uplink_back u h
