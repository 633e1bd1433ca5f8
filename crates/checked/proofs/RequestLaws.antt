-- A request with its check value: where that stands, and what a reader makes of the whole.
use Prim.Native.Nat.{ℕ, ◌^◌, ◌<◌, ◌≤◌}
use mathlib.Core.Path.{◌≡◌, refl, ◌∙◌}
use mathlib.Core.Bool.{true, false}
use mathlib.Core.List.{List, [], ◌∷◌, ◌++◌}
use lib.ListN.{length}
use Rattle.std.specs.Prelude.{Ok, Result, None}
use Rattle.refusal.specs.declared.Refusal.{Refusal}
use Rattle.octets.specs.Numbers.{bytes_of}
use Rattle.octets.proofs.ChoiceLaws.{both_all}
use Rattle.object.specs.declared.family.Family.TheVariants.{Misp}
use Rattle.object.specs.Family.{limit_of}
use Rattle.message.specs.Writing.{object, number_object, object_bytes, encoded, is_name, is_below, Writes}
use Rattle.message.proofs.ValueLaws.{one_list}
use Rattle.misp.specs.Request.{request_values, read_request, request_told, request_bytes, request_in_range}
use Rattle.misp.proofs.RequestLaws.{request_runs, request_form, request_proper}
use Rattle.misp.proofs.RoundTrip.{request_trip}
use Rattle.checked.specs.Checked.{check_for, no_check, request_by, request_of}
use Rattle.checked.proofs.WritesLaws.{checked_fits}
use Rattle.checked.proofs.ShapeLaws.{Shape, SoundShape, check_offset, checked_read}

module _ (stamp kind : ℕ) (account seed : List ℕ) (network : ℕ) where
  -- where its check value stands among its objects
  pub request_shape : Shape (λ check. request_bytes (request_by stamp kind account seed network check))
  unfolding bytes_of
  request_shape = record {
    code = 3;
    second = 0;
    before = number_object 2 8 stamp ∷ object 18 (bytes_of 2 kind) ∷ [];
    after = object 6 account ∷ object 8 seed ∷ object 21 (bytes_of 2 network) ∷ [];
    runs = λ check. request_runs (request_by stamp kind account seed network check);
    form = λ check. request_form (request_by stamp kind account seed network check);
    are = λ check. refl;
    alone = refl;
  }

  -- it stands at byte 20
  pub request_offset : check_offset request_shape ≡ 20
  unfolding request_shape encoded object_bytes bytes_of
  request_offset = refl

  -- never over 1,500 bytes
  pub request_of_fits : (key sender receiver : List ℕ)
      → length (request_of key sender receiver stamp kind account seed network) ≤ limit_of Misp
  unfolding request_of
  request_of_fits key sender receiver = checked_fits request_shape key sender receiver

  -- a writer refuses it for its account alone
  pub request_range : (check : List ℕ) → request_in_range (request_by stamp kind account seed network check) ≡ is_name account
  unfolding request_in_range is_below
  request_range check = rw (one_list kind, one_list network) (both_all (is_name account))

  -- a writer's answer, by what the code gives it
  pub request_written : {security layers before middle : List ℕ} {r r' : Result ℕ Refusal} → security ≡ bytes_of 2 kind → layers ≡ bytes_of 2 network → r ≡ r'
      → Writes Misp (request_in_range (request_values false stamp security no_check account seed layers None)) (request_bytes (request_values false stamp security no_check account seed layers None)) before middle r
      → Writes Misp (is_name account) (request_bytes (request_by stamp kind account seed network no_check)) before middle r'
  request_written p e q w = rw (p, e, request_range no_check, q) at w

  module _ (name : is_name account ≡ true) (sixteen : length seed ≡ 16) where
    -- its objects are such as a message can hold
    pub request_sound : SoundShape request_shape
    unfolding request_shape
    request_sound check e = request_proper (request_by stamp kind account seed network check) (one_list kind) e name sixteen (one_list network)

    -- it is read as what it was made of, with the check value that it should hold
    pub request_read : (password sender receiver more : List ℕ) → stamp < 2 ^ 64
        → request_told (request_of password sender receiver stamp kind account seed network ++ more)
        (read_request (request_of password sender receiver stamp kind account seed network ++ more))
        ≡ Ok (request_by stamp kind account seed network (check_for password sender receiver (request_of password sender receiver stamp kind account seed network ++ more)))
    unfolding request_of
    request_read password sender receiver more small =
        checked_read request_shape request_sound password sender receiver (λ m. request_told m (read_request m)) (request_by stamp kind account seed network) more
        λ check e.
        request_trip (request_by stamp kind account seed network check) (request_range check ∙ name) (record { stamp = small; check = e; seed = sixteen }) more
