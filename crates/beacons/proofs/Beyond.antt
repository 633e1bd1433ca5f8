-- Nothing after a beacon's Length is read. `followed_by m more` is m as far as its Length says, and then the bytes `more`: the reader's answer
-- is the one it gives for m, and says the same of every field.
-- Asked of m: its Length is no less than a header, and no more than the bytes given (else the reader refuses m, with 1 or 2).
use Prim.Native.Nat.{ℕ, ◌≤◌}
use mathlib.Core.Path.{◌≡◌, sym, ◌∙◌}
use mathlib.Core.List.{List}
use lib.ListN.{length}
use Rattle.std.specs.Prelude.{Ok, Err}
use Rattle.object.specs.declared.family.Family.TheVariants.{Misp}
use Rattle.object.specs.Family.{header_of}
use Rattle.message.specs.Reading.{length_of}
use Rattle.message.specs.Field.{object_in, value_in, part_in, optional_in}
use Rattle.message.proofs.BeyondLaws.{followed_by, Whole, kept_read}
use Rattle.beacons.specs.Beacon.{beacon_types, position_in, uplink_in, extras_at, beacon_at, read_beacon, beacon_told}
use Rattle.beacons.proofs.BeaconLaws.{beacon_in, beacon_told_law}

module _ (m : List ℕ) (header : header_of Misp ≤ length_of m) (there : length_of m ≤ length m) (more : List ℕ) where
  whole : Whole Misp m
  whole = record { header = header; there = there }

  -- the answer
  pub beacon_beyond : read_beacon (followed_by m more) ≡ read_beacon m
  unfolding read_beacon beacon_at extras_at position_in uplink_in value_in part_in optional_in object_in
  beacon_beyond = kept_read whole more 1 beacon_types Err (λ l end. Ok (beacon_at end l)) (λ body _. rw body)

  -- and what it says
  pub beacon_told_beyond : beacon_told (followed_by m more) (read_beacon (followed_by m more)) ≡ beacon_told m (read_beacon m)
  unfolding beacon_in extras_at position_in uplink_in value_in optional_in object_in
  beacon_told_beyond =
      beacon_told_law (followed_by m more)
      ∙ kept_read whole more 1 beacon_types Err (λ l end. Ok (beacon_in end l)) (λ body _. rw body)
      ∙ sym (beacon_told_law m)
