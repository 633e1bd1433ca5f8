-- A message cut short, as each reader meets it.
-- 1. Only the first k bytes of a written message are given: refusal 1 (ShortHeader) where they are no whole header, else 2 (BadLength); that
--    is `short_of`.
-- 2. The bytes of the objects xs, o and ys are all there, but Length says k, and k lies past the start of o and before its end (`CutsIn`):
--    refusal 4 (BrokenObject). `saying k` is such a message, with any second byte and any bytes after its
--    objects (where k is the length of the whole, it is what a writer writes: saying_written of CutLaws). `NoPadding`: none is of type 0.
use Prim.Native.Nat.{ℕ, ◌<◌}
use mathlib.Core.Path.{◌≡◌}
use mathlib.Core.List.{List, ◌∷◌, ◌++◌}
use lib.ListN.{length, take}
use Rattle.refusal.specs.declared.Refusal.TheVariants.{BrokenObject}
use Rattle.object.specs.declared.family.Family.TheVariants.{Misp}
use Rattle.message.specs.Writing.{Object}
use Rattle.message.proofs.CarriedLaws.{form_ends}
use Rattle.message.proofs.CutLaws.{short_of, short_vetted, NoPadding, CutsIn, saying, cut_vetted}
use Rattle.std.specs.Prelude.{Err}
use Rattle.misp.specs.Request.{request_types, read_request, RequestValues, request_bytes}
use Rattle.misp.specs.Success.{success_types, read_success, SuccessValues, success_bytes}
use Rattle.misp.specs.Failure.{failure_types, read_failure, failure_bytes}
use Rattle.misp.specs.Terminating.{terminating_types, read_terminating, TerminatingValues, terminating_bytes}
use Rattle.misp.proofs.RequestLaws.{request_form}
use Rattle.misp.proofs.SuccessLaws.{success_form}
use Rattle.misp.proofs.FailureLaws.{failure_form}
use Rattle.misp.proofs.TerminatingLaws.{terminating_form}

pub request_short : (v : RequestValues) (k : ℕ) → k < length (request_bytes v)
    → read_request (take k (request_bytes v)) ≡ Err (short_of Misp k)
unfolding read_request
request_short v k less = rw (short_vetted Misp (request_bytes v) (form_ends (request_form v)) k less 3 request_types)

pub success_short : (v : SuccessValues) (k : ℕ) → k < length (success_bytes v)
    → read_success (take k (success_bytes v)) ≡ Err (short_of Misp k)
unfolding read_success
success_short v k less = rw (short_vetted Misp (success_bytes v) (form_ends (success_form v)) k less 4 success_types)

pub failure_short : (stamp reason k : ℕ) → k < length (failure_bytes stamp reason)
    → read_failure (take k (failure_bytes stamp reason)) ≡ Err (short_of Misp k)
unfolding read_failure
failure_short stamp reason k less =
    rw (short_vetted Misp (failure_bytes stamp reason) (form_ends (failure_form stamp reason)) k less 8 failure_types)

pub terminating_short : (v : TerminatingValues) (k : ℕ) → k < length (terminating_bytes v)
    → read_terminating (take k (terminating_bytes v)) ≡ Err (short_of Misp k)
unfolding read_terminating
terminating_short v k less = rw (short_vetted Misp (terminating_bytes v) (form_ends (terminating_form v)) k less 9 terminating_types)

module _ (xs : List Object) (o : Object) (ys : List Object) (none : NoPadding Misp (xs ++ (o ∷ ys))) (k : ℕ) (cuts : CutsIn Misp xs o k)
    (second : ℕ) (more : List ℕ) where
  pub request_cut : read_request (saying k Misp 3 second (xs ++ (o ∷ ys)) more) ≡ Err BrokenObject
  unfolding read_request
  request_cut = rw (cut_vetted Misp xs o ys none k cuts 3 second request_types more)

  pub success_cut : read_success (saying k Misp 4 second (xs ++ (o ∷ ys)) more) ≡ Err BrokenObject
  unfolding read_success
  success_cut = rw (cut_vetted Misp xs o ys none k cuts 4 second success_types more)

  pub failure_cut : read_failure (saying k Misp 8 second (xs ++ (o ∷ ys)) more) ≡ Err BrokenObject
  unfolding read_failure
  failure_cut = rw (cut_vetted Misp xs o ys none k cuts 8 second failure_types more)

  pub terminating_cut : read_terminating (saying k Misp 9 second (xs ++ (o ∷ ys)) more) ≡ Err BrokenObject
  unfolding read_terminating
  terminating_cut = rw (cut_vetted Misp xs o ys none k cuts 9 second terminating_types more)
