-- A beacon cut short, as its reader meets it; `short_of`, `CutsIn`, `NoPadding` and `saying` are those of message's CutLaws.
use Prim.Native.Nat.{ℕ, ◌<◌}
use mathlib.Core.Path.{◌≡◌}
use mathlib.Core.List.{List, ◌∷◌, ◌++◌}
use lib.ListN.{length, take}
use Rattle.std.specs.Prelude.{Err}
use Rattle.refusal.specs.declared.Refusal.TheVariants.{BrokenObject}
use Rattle.object.specs.declared.family.Family.TheVariants.{Misp}
use Rattle.message.specs.Writing.{Object}
use Rattle.message.proofs.CarriedLaws.{form_ends}
use Rattle.message.proofs.CutLaws.{short_of, short_vetted, NoPadding, CutsIn, saying, cut_vetted}
use Rattle.beacons.specs.Beacon.{beacon_types, read_beacon, BeaconValues, beacon_bytes}
use Rattle.beacons.proofs.BeaconLaws.{beacon_form}

-- the first k bytes alone: 1 or 2
pub beacon_short : (v : BeaconValues) (k : ℕ) → k < length (beacon_bytes v)
    → read_beacon (take k (beacon_bytes v)) ≡ Err (short_of Misp k)
unfolding read_beacon
beacon_short v k less = rw (short_vetted Misp (beacon_bytes v) (form_ends (beacon_form v)) k less 1 beacon_types)

module _ (xs : List Object) (o : Object) (ys : List Object) (none : NoPadding Misp (xs ++ (o ∷ ys))) (k : ℕ) (cuts : CutsIn Misp xs o k)
    (second : ℕ) (more : List ℕ) where
  -- a Length within an object: 4
  pub beacon_cut : read_beacon (saying k Misp 1 second (xs ++ (o ∷ ys)) more) ≡ Err BrokenObject
  unfolding read_beacon
  beacon_cut = rw (cut_vetted Misp xs o ys none k cuts 1 second beacon_types more)
