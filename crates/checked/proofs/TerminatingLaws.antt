-- A terminating message with its check value: where that stands, and what a reader makes of the whole.
use Prim.Native.Nat.{ℕ, ◌^◌, ◌<◌, ◌≤◌}
use mathlib.Core.Path.{◌≡◌, refl}
use mathlib.Core.Bool.{true}
use mathlib.Core.List.{List, [], ◌∷◌, ◌++◌}
use lib.ListN.{length}
use Rattle.std.specs.Prelude.{Ok, Result}
use Rattle.refusal.specs.declared.Refusal.{Refusal}
use Rattle.octets.specs.Numbers.{bytes_of}
use Rattle.object.specs.declared.family.Family.TheVariants.{Misp}
use Rattle.object.specs.Family.{limit_of}
use Rattle.message.specs.Writing.{number_object, object_bytes, encoded, is_below, Writes}
use Rattle.misp.specs.Terminating.{read_terminating, terminating_told, terminating_bytes, terminating_in_range}
use Rattle.misp.proofs.TerminatingLaws.{terminating_runs, terminating_form, terminating_proper}
use Rattle.misp.proofs.RoundTrip.{terminating_trip}
use Rattle.checked.specs.Checked.{check_for, no_check, terminating_by, terminating_of}
use Rattle.checked.proofs.WritesLaws.{checked_fits}
use Rattle.checked.proofs.ShapeLaws.{Shape, SoundShape, check_offset, checked_read}

module _ (stamp : ℕ) where
  -- where its check value stands among its objects
  pub terminating_shape : Shape (λ check. terminating_bytes (terminating_by stamp check))
  unfolding bytes_of
  terminating_shape = record {
    code = 9;
    second = 0;
    before = number_object 2 8 stamp ∷ [];
    after = [];
    runs = λ check. terminating_runs (terminating_by stamp check);
    form = λ check. terminating_form (terminating_by stamp check);
    are = λ check. refl;
    alone = refl;
  }

  -- it stands at byte 16
  pub terminating_offset : check_offset terminating_shape ≡ 16
  unfolding terminating_shape encoded object_bytes bytes_of
  terminating_offset = refl

  -- never over 1,500 bytes
  pub terminating_of_fits : (key sender receiver : List ℕ) → length (terminating_of key sender receiver stamp) ≤ limit_of Misp
  unfolding terminating_of
  terminating_of_fits key sender receiver = checked_fits terminating_shape key sender receiver

  -- a writer does not refuse its fields
  pub terminating_range : (check : List ℕ) → terminating_in_range (terminating_by stamp check) ≡ true
  unfolding terminating_in_range is_below
  terminating_range check = refl

  -- its objects are such as a message can hold
  pub terminating_sound : SoundShape terminating_shape
  unfolding terminating_shape
  terminating_sound check e = terminating_proper (terminating_by stamp check) e

  -- it is read as what it was made of, with the check value that it should hold
  pub terminating_read : (key sender receiver more : List ℕ) → stamp < 2 ^ 64
      → terminating_told (terminating_of key sender receiver stamp ++ more) (read_terminating (terminating_of key sender receiver stamp ++ more))
      ≡ Ok (terminating_by stamp (check_for key sender receiver (terminating_of key sender receiver stamp ++ more)))
  unfolding terminating_of
  terminating_read key sender receiver more small =
      checked_read terminating_shape terminating_sound key sender receiver (λ m. terminating_told m (read_terminating m)) (terminating_by stamp) more
      λ check e. terminating_trip (terminating_by stamp check) (terminating_range check) (record { stamp = small; check = e }) more

  -- a writer's answer, by what the code gives it
  pub terminating_written : {before middle : List ℕ} {r r' : Result ℕ Refusal} → r ≡ r'
      → Writes Misp (terminating_in_range (terminating_by stamp no_check)) (terminating_bytes (terminating_by stamp no_check)) before middle r
      → Writes Misp true (terminating_bytes (terminating_by stamp no_check)) before middle r'
  terminating_written q w = rw (terminating_range no_check, q) at w
