-- Messages that hold a check value: where it stands, and that their authentication data is the same whatever stands there.
use Rattle.refusal.specs.declared.Refusal.{Refusal}
use Prim.Native.Nat.{ℕ, ◌+◌, ◌≤◌}
use mathlib.Core.Path.{◌≡◌, refl, sym, ap, ◌∙◌}
use mathlib.Core.List.{List, [], ◌∷◌, ◌++◌, append-nil}
use native.Mathlib.Omega.{arith}
use lib.ListN.{length, length-append}
use lib.Seq.{take_at}
use Rattle.std.specs.Prelude.{Ok, Result}
use Rattle.octets.specs.Put.{put_in}
use Rattle.octets.proofs.PutLaws.{put_in_length}
use Rattle.object.specs.declared.family.Family.TheVariants.{Misp}
use Rattle.message.specs.Reading.{length_of}
use Rattle.message.specs.Field.{part_of, object_in, part_in}
use Rattle.message.specs.Writing.{Object, object, encoded, message_of}
use Rattle.message.proofs.EncodedLaws.{given}
use Rattle.message.proofs.RunLaws.{Run, in_runs, RunsProper}
use Rattle.message.proofs.CarriedLaws.{Form, form_long, form_short, Carries, carries, carried_length}
use Rattle.message.proofs.ObjectLaws.{object_size}
use Rattle.message.proofs.WritingLaws.{message_length, encoded_append}
use Rattle.message.proofs.PatchLaws.{patch_message, standing, first_carried}
use Rattle.icv.specs.Icv.{authentication_of, check_value}
use Rattle.icv.proofs.IcvLaws.{authentication_put, check_value_length}
use Rattle.checked.specs.Checked.{authentication_data, check_for, no_check, with_check}

-- `make` gives for each check value a message that holds it in its first object 5
pub record Shape (make : List ℕ → List ℕ) : Type 0 where
  pub code : ℕ
  pub second : ℕ
  pub before : List Object
  pub after : List Object
  pub runs : List ℕ → List Run
  pub form : (c : List ℕ) → Form Misp code second (runs c) (make c)
  pub are : (c : List ℕ) → in_runs (runs c) ≡ before ++ (object 5 c ∷ after)
  pub alone : given 5 before ≡ []

-- with each check value of 16 bytes its objects are such as a message can hold
abbrev pub SoundShape : {make : List ℕ → List ℕ} → Shape make → Type 0
SoundShape s = (c : List ℕ) → length c ≡ 16 → RunsProper Misp (s.runs c)

-- where the check value stands
abbrev pub check_offset : {make : List ℕ → List ℕ} → Shape make → ℕ
check_offset s = 4 + length (encoded s.before) + 2

-- its bytes, with the check value's object between the others
shape_is : {make : List ℕ → List ℕ} (s : Shape make) (c : List ℕ) → make c ≡ message_of Misp s.code s.second (encoded (s.before ++ (object 5 c ∷ s.after)))
shape_is s c = (s.form c).is ∙ ap (λ (os : List Object). message_of Misp s.code s.second (encoded os)) (s.are c)

-- another check value put in its place
pub shape_patch : {make : List ℕ → List ℕ} (s : Shape make) (z c : List ℕ) → length z ≡ 16 → length c ≡ 16 → put_in (make z) (check_offset s) c ≡ make c
shape_patch s z c p q =
    ap (λ (m : List ℕ). put_in m (check_offset s) c) (shape_is s z)
    ∙ patch_message Misp s.code s.second 5 s.before s.after z c (p ∙ sym q) (omega arith)
    ∙ sym (shape_is s c)

-- so its length is the same with each check value
pub shape_size : {make : List ℕ → List ℕ} (s : Shape make) (z c : List ℕ) → length z ≡ 16 → length c ≡ 16 → length (make c) ≡ length (make z)
shape_size {make} s z c p q = ap length (sym (shape_patch s z c p q)) ∙ put_in_length (make z) (check_offset s) c

-- the check value stands within it
pub shape_room : {make : List ℕ → List ℕ} (s : Shape make) (c : List ℕ) → length c ≡ 16 → check_offset s + 16 ≤ length (make c)
unfolding encoded
shape_room s c e =
    rw (shape_is s c, message_length, encoded_append, length-append, length-append, object_size 5 c (omega arith)) (omega arith)

-- a message that holds a check value of 16 bytes, with any bytes after it
module _ {make : List ℕ → List ℕ} (s : Shape make) (proper : SoundShape s) (c : List ℕ) (sixteen : length c ≡ 16) (more : List ℕ) where
  -- it is read as these objects
  carried : Carries Misp s.code s.second (s.runs c) (make c ++ more)
  carried = carries (s.form c) (proper c sixteen) more

  -- its Length is that of the message alone
  pub shape_length : length_of (make c ++ more) ≡ length (make c)
  shape_length = carried_length carried ∙ sym (form_long (s.form c))

  -- its object 5 is the check value's
  shape_object : object_in Misp 5 (length_of (make c ++ more)) (make c ++ more) ≡ standing 5 (check_offset s) c
  shape_object = first_carried carried 5 s.before c s.after refl (s.are c) s.alone

  -- so the part that a reader hands back is the check value's
  shape_part : part_in Misp 5 (length_of (make c ++ more)) (make c ++ more) ≡ record { at = check_offset s; len = length c }
  unfolding part_in
  shape_part = ap part_of shape_object

  -- its authentication data is that of the message alone
  pub shape_data : (sender receiver : List ℕ) → authentication_data sender receiver (make c ++ more) ≡ authentication_of (check_offset s) sender receiver (make c)
  unfolding authentication_data
  shape_data sender receiver =
      rw (shape_part, shape_length) (ap (authentication_of (check_offset s) sender receiver) (take_at (make c) more (length (make c)) refl))

-- the data does not depend on the check value
pub data_same : {make : List ℕ → List ℕ} (s : Shape make) → SoundShape s → (z c : List ℕ) → length z ≡ 16 → length c ≡ 16 → (more : List ℕ) (sender receiver : List ℕ)
    → authentication_data sender receiver (make c ++ more) ≡ authentication_data sender receiver (make z)
data_same {make} s proper z c p q more sender receiver =
    shape_data s proper c q more sender receiver
    ∙ ap (authentication_of (check_offset s) sender receiver) (sym (shape_patch s z c p q))
    ∙ authentication_put (check_offset s) sender receiver (make z) c q (form_short (s.form z))
    ∙ sym (shape_data s proper z p [] sender receiver)
    ∙ ap (authentication_data sender receiver) (append-nil (make z))

-- a check value has 16 bytes
pub check_sixteen : (key sender receiver m : List ℕ) → length (check_for key sender receiver m) ≡ 16
unfolding check_for
check_sixteen key sender receiver m = check_value_length key (authentication_data sender receiver m)

module _ {make : List ℕ → List ℕ} (s : Shape make) (proper : SoundShape s) (key sender receiver : List ℕ) where
  -- with its check value in place a message should hold the one that it should hold with zeros there
  pub check_stays : (more : List ℕ) → check_for key sender receiver (with_check key sender receiver make ++ more) ≡ check_for key sender receiver (make no_check)
  unfolding check_for with_check
  check_stays more =
      ap (check_value key) (data_same s proper no_check (check_for key sender receiver (make no_check)) refl (check_sixteen key sender receiver (make no_check)) more sender receiver)

  -- where a reader tells of the message with any check value what it was made of, it tells so of this one, and the check value is the one it should hold
  pub checked_read : {A : Type 0} (told : List ℕ → Result A Refusal) (by : List ℕ → A) (more : List ℕ)
      → ((c : List ℕ) → length c ≡ 16 → told (make c ++ more) ≡ Ok (by c))
      → told (with_check key sender receiver make ++ more) ≡ Ok (by (check_for key sender receiver (with_check key sender receiver make ++ more)))
  unfolding with_check
  checked_read told by more trip =
      trip (check_for key sender receiver (make no_check)) (check_sixteen key sender receiver (make no_check))
      ∙ ap (λ (c : List ℕ). Ok (by c)) (sym (check_stays more))
