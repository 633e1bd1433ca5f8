-- What is written is read: the bytes of each kind, with any bytes after them, are read as the very fields they were made of.
-- Asked of the fields: `_in_range`, so that a writer does not refuse them, and `Typed`, what the types of the writer's arguments say of every
-- value they can have. None of the four kinds passes 1,500 bytes, whatever its fields are (`form_short` of its form).
use Prim.Native.Nat.{ℕ, ◌^◌, ◌≤◌, ◌<◌}
use mathlib.Core.Path.{◌≡◌, refl, ◌∙◌}
use mathlib.Core.Bool.{true}
use mathlib.Core.List.{List, ◌++◌}
use lib.Dec.{lit≤}
use lib.ListN.{length, drop}
use borrow.Author.Tests.{eq-eqb}
use Rattle.octets.proofs.ChoiceLaws.{in_turn}
use Rattle.octets.proofs.NumberLaws.{number_back}
use Rattle.octets.specs.Choice.{both, every}
use Rattle.object.specs.declared.family.Family.TheVariants.{Misp}
use Rattle.object.specs.Family.{limit_of}
use Rattle.message.specs.Reading.{fits_in}
use Rattle.message.specs.Writing.{is_list, is_name, is_below, Writes}
use Rattle.message.proofs.CarriedLaws.{form_short, carries, carried_second, carried_vetted, carried_value, carried_optional}
use Rattle.message.proofs.ValueLaws.{flag_back, name_there}
use Rattle.message.proofs.WroteLaws.{wrote_left}
use Rattle.std.specs.Prelude.{Ok}
use Rattle.misp.specs.Request.{request_types, read_request, RequestValues, request_told, request_bytes, request_in_range}
use Rattle.misp.specs.Success.{success_types, read_success, SuccessValues, success_told, success_bytes, success_in_range}
use Rattle.misp.specs.Failure.{failure_types, failure_at, read_failure, failure_bytes}
use Rattle.misp.specs.Terminating.{terminating_types, read_terminating, TerminatingValues, terminating_told, terminating_bytes, terminating_in_range}
use Rattle.misp.proofs.RequestLaws.{request_form, request_proper, request_in, request_told_law}
use Rattle.misp.proofs.SuccessLaws.{success_form, success_proper, success_in, success_told_law}
use Rattle.misp.proofs.FailureLaws.{failure_form, failure_proper}
use Rattle.misp.proofs.TerminatingLaws.{terminating_form, terminating_proper, terminating_in, terminating_told_law}

-- FAILURE: a 64-bit stamp and a 16-bit reason.
pub failure_fits : (stamp reason : ℕ) → length (failure_bytes stamp reason) ≤ limit_of Misp
failure_fits stamp reason = form_short (failure_form stamp reason)

pub failure_trip : (stamp reason : ℕ) → stamp < 2 ^ 64 → reason < 2 ^ 16 → (more : List ℕ)
    → read_failure (failure_bytes stamp reason ++ more) ≡ Ok (record { stamp = stamp; reason = reason })
unfolding read_failure failure_at every fits_in
failure_trip stamp reason s r more =
    let c = carries (failure_form stamp reason) (failure_proper stamp reason) more in
    rw (
      carried_vetted c failure_types refl refl,
      carried_value c 2,
      carried_value c 13,
      number_back 8 8 stamp s (lit≤ tt),
      number_back 2 2 reason r (lit≤ tt),
    )

-- TERMINATING: a 64-bit stamp and a check value of 16 bytes.
pub record TerminatingTyped (v : TerminatingValues) : Type 0 where
  pub stamp : v.stamp < 2 ^ 64
  pub check : length v.check ≡ 16

pub terminating_trip : (v : TerminatingValues) → terminating_in_range v ≡ true → TerminatingTyped v → (more : List ℕ)
    → terminating_told (terminating_bytes v ++ more) (read_terminating (terminating_bytes v ++ more)) ≡ Ok v
unfolding terminating_in_range terminating_in every fits_in
terminating_trip v range typed more =
    let c = carries (terminating_form v) (terminating_proper v typed.check) more in
    terminating_told_law (terminating_bytes v ++ more)
    ∙ rw (
      carried_vetted c terminating_types refl (rw (eq-eqb (length v.check) 16 typed.check)),
      carried_second c,
      carried_value c 2,
      carried_value c 5,
      carried_optional c 13 2 v.reason refl range (lit≤ tt),
      flag_back v.s,
      number_back 8 8 v.stamp typed.stamp (lit≤ tt),
    )

-- SUCCESS: a 64-bit stamp, a 16-bit lifetime and a check value of 16 bytes.
pub record SuccessTyped (v : SuccessValues) : Type 0 where
  pub stamp : v.stamp < 2 ^ 64
  pub lifetime : v.lifetime < 2 ^ 16
  pub check : length v.check ≡ 16

pub success_trip : (v : SuccessValues) → success_in_range v ≡ true → SuccessTyped v → (more : List ℕ)
    → success_told (success_bytes v ++ more) (read_success (success_bytes v ++ more)) ≡ Ok v
unfolding success_in_range success_in every fits_in
success_trip v range typed more =
    let both_below = both (is_below v.local (2 ^ 32)) (is_below v.remote (2 ^ 32)) in
    let (layers, below) = in_turn (is_list 2 v.layers) both_below range in
    let (local, remote) = in_turn (is_below v.local (2 ^ 32)) (is_below v.remote (2 ^ 32)) below in
    let c = carries (success_form v) (success_proper v typed.check layers) more in
    success_told_law (success_bytes v ++ more)
    ∙ rw (
      carried_vetted c success_types refl (rw (eq-eqb (length v.check) 16 typed.check)),
      carried_second c,
      carried_value c 2,
      carried_value c 15,
      carried_value c 5,
      carried_value c 21,
      carried_optional c 3 4 v.local refl local (lit≤ tt),
      carried_optional c 4 4 v.remote refl remote (lit≤ tt),
      flag_back v.s,
      number_back 8 8 v.stamp typed.stamp (lit≤ tt),
      number_back 2 2 v.lifetime typed.lifetime (lit≤ tt),
    )

-- REQUEST: a 64-bit stamp, a check value and a seed of 16 bytes.
pub record RequestTyped (v : RequestValues) : Type 0 where
  pub stamp : v.stamp < 2 ^ 64
  pub check : length v.check ≡ 16
  pub seed : length v.seed ≡ 16

pub request_trip : (v : RequestValues) → request_in_range v ≡ true → RequestTyped v → (more : List ℕ)
    → request_told (request_bytes v ++ more) (read_request (request_bytes v ++ more)) ≡ Ok v
unfolding request_in_range request_in every fits_in
request_trip v range typed more =
    let local_below = is_below v.local (2 ^ 32) in
    let from_account = both (is_name v.account) local_below in
    let from_layers = both (is_list 2 v.layers) from_account in
    let (security, rest) = in_turn (is_list 2 v.security) from_layers range in
    let (layers, rest) = in_turn (is_list 2 v.layers) from_account rest in
    let (account, local) = in_turn (is_name v.account) local_below rest in
    let c = carries (request_form v) (request_proper v security typed.check account typed.seed layers) more in
    request_told_law (request_bytes v ++ more)
    ∙ rw (
      carried_vetted c request_types refl
          (rw (eq-eqb (length v.check) 16 typed.check, name_there v.account account, eq-eqb (length v.seed) 16 typed.seed)),
      carried_second c,
      carried_value c 2,
      carried_value c 18,
      carried_value c 5,
      carried_value c 6,
      carried_value c 8,
      carried_value c 21,
      carried_optional c 3 4 v.local refl local (lit≤ tt),
      flag_back v.s,
      number_back 8 8 v.stamp typed.stamp (lit≤ tt),
    )

-- IN THE BUFFER: where a writer answers with a number of bytes, what it leaves in the lent buffer is read as the fields that it was given.
module _ {before after : List ℕ} {n : ℕ} where
  pub failure_left : (stamp reason : ℕ) → stamp < 2 ^ 64 → reason < 2 ^ 16
      → Writes Misp true (failure_bytes stamp reason) before after (Ok n)
      → read_failure after ≡ Ok (record { stamp = stamp; reason = reason })
  failure_left stamp reason s r w =
      rw (wrote_left w).starts (failure_trip stamp reason s r (drop (length (failure_bytes stamp reason)) before))

  pub terminating_left : (v : TerminatingValues) → TerminatingTyped v
      → Writes Misp (terminating_in_range v) (terminating_bytes v) before after (Ok n)
      → terminating_told after (read_terminating after) ≡ Ok v
  terminating_left v typed w =
      rw (wrote_left w).starts (terminating_trip v (wrote_left w).range typed (drop (length (terminating_bytes v)) before))

  pub success_left : (v : SuccessValues) → SuccessTyped v → Writes Misp (success_in_range v) (success_bytes v) before after (Ok n)
      → success_told after (read_success after) ≡ Ok v
  success_left v typed w = rw (wrote_left w).starts (success_trip v (wrote_left w).range typed (drop (length (success_bytes v)) before))

  pub request_left : (v : RequestValues) → RequestTyped v → Writes Misp (request_in_range v) (request_bytes v) before after (Ok n)
      → request_told after (read_request after) ≡ Ok v
  request_left v typed w = rw (wrote_left w).starts (request_trip v (wrote_left w).range typed (drop (length (request_bytes v)) before))
