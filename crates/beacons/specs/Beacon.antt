-- The beacon message (document 000, 4.5.2; the paper: mandatory 2, 14, 16, 17, 18, 21; document 000: optional 9, 10, 11, 19, 20).
use Rattle.std.specs.Prelude.{ℕ, ◌^◌, Bool, true, List, [], ◌∷◌, ◌++◌, take, drop, Result, Ok, Err, Option, Some, None}
use Rattle.position.specs.declared.Position.{Position}
use Rattle.refusal.specs.declared.Refusal.{Refusal}
use Rattle.octets.specs.Choice.{both}
use Rattle.octets.specs.Numbers.{number_of, bytes_of}
use Rattle.object.specs.declared.family.Family.TheVariants.{Misp}
use Rattle.position.specs.Position.{position_of, position_bytes, in_range}
use Rattle.message.specs.Reading.{value_of, vetted, by_vetted}
use Rattle.octets.specs.Part.{bytes_at}
use Rattle.message.specs.Field.{object_in, part_in, optional_in, number_in}
use Rattle.message.specs.Writing.{Object, object, number_object, repeats, perhaps, optional_object, encoded, message_of, is_list, is_below}
use Rattle.beacons.specs.declared.beacon.Uplink.{Uplink}
use Rattle.beacons.specs.declared.beacon.Extras.{Extras}
use Rattle.beacons.specs.declared.beacon.Beacon.{Beacon}

-- the paper: beacon 2, 14, 16, 17, 18, 21
abbrev pub beacon_types : List ℕ
beacon_types = 2 ∷ 14 ∷ 16 ∷ 17 ∷ 18 ∷ 21 ∷ []

-- object 9 (document 000, 4.4.8) as a position, or that it is missing
abbrev pub position_field_of : Option (List ℕ) → Option Position
position_field_of None = None
position_field_of (Some v) = Some (position_of v)

-- the position that counts, or that it is missing
unfoldable pub position_in : ℕ → List ℕ → Option Position
position_in end m = position_field_of (value_of (object_in Misp 9 end m))

-- object 19 (document 000, 4.4.17): line type, upstream and downstream
unfoldable pub uplink_of : List ℕ → Uplink
uplink_of v = record { line = number_of (take 2 v); up = number_of (take 2 (drop 2 v)); down = number_of (take 2 (drop 4 v)) }

-- the value of object 19
unfoldable pub uplink_bytes : Uplink → List ℕ
uplink_bytes u = bytes_of 2 u.line ++ (bytes_of 2 u.up ++ bytes_of 2 u.down)

-- object 19 as an uplink, or that it is missing
abbrev pub uplink_field_of : Option (List ℕ) → Option Uplink
uplink_field_of None = None
uplink_field_of (Some v) = Some (uplink_of v)

-- the uplink that counts, or that it is missing
unfoldable pub uplink_in : ℕ → List ℕ → Option Uplink
uplink_in end m = uplink_field_of (value_of (object_in Misp 19 end m))

-- the optional objects of document 000, 4.5.2
unfoldable pub extras_at : ℕ → List ℕ → Extras
extras_at end m =
    record {
      position = position_in end m;
      left = optional_in Misp 10 end m;
      filter = optional_in Misp 11 end m;
      uplink = uplink_in end m;
      channel = optional_in Misp 20 end m;
    }

-- the fields, byte strings as parts of the message
unfoldable pub beacon_at : ℕ → List ℕ → Beacon
beacon_at end m =
    record {
      stamp = number_in Misp 2 8 end m;
      groups = part_in Misp 14 end m;
      serial = number_in Misp 16 2 end m;
      interval = number_in Misp 17 2 end m;
      security = part_in Misp 18 end m;
      layers = part_in Misp 21 end m;
      extras = extras_at end m;
    }

-- the fields, or 1 to 5: no mandatory object has a size that 6 asks for
unfoldable pub read_beacon : List ℕ → Result Beacon Refusal
read_beacon m = by_vetted (vetted Misp 1 beacon_types m) Err λ end. Ok (beacon_at end m)

-- the fields as values
pub record BeaconValues : Type 0 where
  pub stamp : ℕ
  pub groups : List ℕ
  pub serial : ℕ
  pub interval : ℕ
  pub security : List ℕ
  pub layers : List ℕ
  pub extras : Extras

-- the same, field by field
abbrev pub beacon_values : ℕ → List ℕ → ℕ → ℕ → List ℕ → List ℕ → Extras → BeaconValues
beacon_values stamp groups serial interval security layers extras =
    record { stamp = stamp; groups = groups; serial = serial; interval = interval; security = security; layers = layers; extras = extras }

-- the values: the bytes of a reader's parts of the message m
abbrev pub beacon_from : List ℕ → Beacon → BeaconValues
beacon_from m r =
    beacon_values r.stamp (bytes_at m r.groups) r.serial r.interval (bytes_at m r.security) (bytes_at m r.layers) r.extras

-- what a reader's answer says of the message m: its number, or these values
unfoldable pub beacon_told : List ℕ → Result Beacon Refusal → Result BeaconValues Refusal
beacon_told m (Err why) = Err why
beacon_told m (Ok r) = Ok (beacon_from m r)

-- the value of object 9, where there is a position
abbrev pub position_value : Option Position → Option (List ℕ)
position_value None = None
position_value (Some p) = Some (position_bytes p)

-- object 9 with that value, or none
abbrev pub position_object : Option Position → List Object
position_object p = repeats 9 (perhaps (position_value p))

-- the value of object 19, where there is an uplink
abbrev pub uplink_value : Option Uplink → Option (List ℕ)
uplink_value None = None
uplink_value (Some u) = Some (uplink_bytes u)

-- object 19 with that value, or none
abbrev pub uplink_object : Option Uplink → List Object
uplink_object u = repeats 19 (perhaps (uplink_value u))

-- the optional objects by rising type
unfoldable pub extra_objects : Extras → List Object
extra_objects e =
    position_object e.position ++ (optional_object 10 1 e.left ++ (optional_object 11 1 e.filter
    ++ (uplink_object e.uplink ++ optional_object 20 1 e.channel)))

-- mandatory objects in the paper's order, then the optional ones; S is reserved and 0
unfoldable pub beacon_bytes : BeaconValues → List ℕ
beacon_bytes v =
    message_of Misp 1 0
    (encoded
    (number_object 2 8 v.stamp ∷ object 14 v.groups ∷ number_object 16 2 v.serial ∷ number_object 17 2 v.interval
    ∷ object 18 v.security ∷ object 21 v.layers ∷ extra_objects v.extras))

-- no position, or one that a writer can say (DECISIONS, 19)
abbrev pub position_in_range : Option Position → Bool
position_in_range None = true
position_in_range (Some p) = in_range p

-- a position that can be said; addresses left and channel of one byte, a filter of 0 or 1 (document 001, 4.4.10; DECISIONS, 2)
unfoldable pub extras_in_range : Extras → Bool
extras_in_range e =
    both (position_in_range e.position) (both (is_below e.left (2 ^ 8)) (both (is_below e.filter 2) (is_below e.channel (2 ^ 8))))

-- refusal 18 where this fails (DECISIONS, 19)
unfoldable pub beacon_in_range : BeaconValues → Bool
beacon_in_range v =
    both (is_list 4 v.groups) (both (is_list 2 v.security) (both (is_list 2 v.layers) (extras_in_range v.extras)))
