-- A success with its check value: where that stands, and what a reader makes of the whole.
use Prim.Native.Nat.{ℕ, ◌^◌, ◌<◌, ◌≤◌}
use mathlib.Core.Path.{◌≡◌, refl}
use mathlib.Core.Bool.{true, false}
use mathlib.Core.List.{List, [], ◌∷◌, ◌++◌}
use lib.ListN.{length}
use Rattle.std.specs.Prelude.{Ok, Result, None}
use Rattle.refusal.specs.declared.Refusal.{Refusal}
use Rattle.octets.specs.Numbers.{bytes_of}
use Rattle.object.specs.declared.family.Family.TheVariants.{Misp}
use Rattle.object.specs.Family.{limit_of}
use Rattle.message.specs.Writing.{object, number_object, object_bytes, encoded, is_below, Writes}
use Rattle.message.proofs.ValueLaws.{one_list}
use Rattle.misp.specs.Success.{success_values, read_success, success_told, success_bytes, success_in_range}
use Rattle.misp.proofs.SuccessLaws.{success_runs, success_form, success_proper}
use Rattle.misp.proofs.RoundTrip.{success_trip}
use Rattle.checked.specs.Checked.{check_for, no_check, success_by, success_of}
use Rattle.checked.proofs.WritesLaws.{checked_fits}
use Rattle.checked.proofs.ShapeLaws.{Shape, SoundShape, check_offset, checked_read}

module _ (stamp lifetime network : ℕ) where
  -- where its check value stands among its objects
  pub success_shape : Shape (λ check. success_bytes (success_by stamp lifetime network check))
  unfolding bytes_of
  success_shape = record {
    code = 4;
    second = 0;
    before = number_object 2 8 stamp ∷ number_object 15 2 lifetime ∷ [];
    after = object 21 (bytes_of 2 network) ∷ [];
    runs = λ check. success_runs (success_by stamp lifetime network check);
    form = λ check. success_form (success_by stamp lifetime network check);
    are = λ check. refl;
    alone = refl;
  }

  -- it stands at byte 20
  pub success_offset : check_offset success_shape ≡ 20
  unfolding success_shape encoded object_bytes bytes_of
  success_offset = refl

  -- never over 1,500 bytes
  pub success_of_fits : (key sender receiver : List ℕ) → length (success_of key sender receiver stamp lifetime network) ≤ limit_of Misp
  unfolding success_of
  success_of_fits key sender receiver = checked_fits success_shape key sender receiver

  -- a writer does not refuse its fields
  pub success_range : (check : List ℕ) → success_in_range (success_by stamp lifetime network check) ≡ true
  unfolding success_in_range is_below
  success_range check = rw (one_list network)

  -- its objects are such as a message can hold
  pub success_sound : SoundShape success_shape
  unfolding success_shape
  success_sound check e = success_proper (success_by stamp lifetime network check) e (one_list network)

  -- it is read as what it was made of, with the check value that it should hold
  pub success_read : (key sender receiver more : List ℕ) → stamp < 2 ^ 64 → lifetime < 2 ^ 16
      → success_told (success_of key sender receiver stamp lifetime network ++ more) (read_success (success_of key sender receiver stamp lifetime network ++ more))
      ≡ Ok (success_by stamp lifetime network (check_for key sender receiver (success_of key sender receiver stamp lifetime network ++ more)))
  unfolding success_of
  success_read key sender receiver more small short =
      checked_read success_shape success_sound key sender receiver (λ m. success_told m (read_success m)) (success_by stamp lifetime network) more
      λ check e. success_trip (success_by stamp lifetime network check) (success_range check) (record { stamp = small; lifetime = short; check = e }) more

  -- a writer's answer, by what the code gives it
  pub success_written : {layers before middle : List ℕ} {r r' : Result ℕ Refusal} → layers ≡ bytes_of 2 network → r ≡ r'
      → Writes Misp (success_in_range (success_values false stamp lifetime no_check layers None None)) (success_bytes (success_values false stamp lifetime no_check layers None None)) before middle r
      → Writes Misp true (success_bytes (success_by stamp lifetime network no_check)) before middle r'
  success_written e q w = rw (e, success_range no_check, q) at w
