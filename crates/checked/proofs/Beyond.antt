-- Nothing after a message's Length counts for its authentication data and its check value. `followed_by m more` is m as far as its Length says, and
-- then the bytes `more`. Asked of m: its Length is no less than a header, and no more than the bytes given.
use Prim.Native.Nat.{ℕ}
use mathlib.Core.Path.{◌≡◌}
use mathlib.Core.List.{List}
use Rattle.object.specs.declared.family.Family.TheVariants.{Misp}
use Rattle.message.specs.Field.{object_in, part_in}
use Rattle.message.proofs.BeyondLaws.{followed_by, Whole, kept_length, kept_body, kept_take}
use Rattle.checked.specs.Checked.{authentication_data, check_for}

module _ {m : List ℕ} (w : Whole Misp m) (more sender receiver : List ℕ) where
  pub data_beyond : authentication_data sender receiver (followed_by m more) ≡ authentication_data sender receiver m
  unfolding authentication_data part_in object_in
  data_beyond = rw (kept_length w more, kept_body w more, kept_take w more)

  pub check_beyond : (key : List ℕ) → check_for key sender receiver (followed_by m more) ≡ check_for key sender receiver m
  unfolding check_for
  check_beyond key = rw data_beyond
