-- A message cut short, as each reader meets it.
-- 1. Only the first k bytes of a written message are given: refusal 1 (ShortHeader) where they are no whole header, else 2 (BadLength); that
--    is `short_of`.
-- 2. The bytes of the objects xs, o and ys are all there, but Length says k, and k lies past the start of o and before its end (`CutsIn`):
--    refusal 4 (BrokenObject). `saying k` is such a message, with any second byte and any bytes after its
--    objects (where k is the length of the whole, it is what a writer writes: saying_written of CutLaws).
use Prim.Native.Nat.{ℕ, ◌≤◌, ◌<◌}
use mathlib.Core.Path.{◌≡◌}
use mathlib.Core.List.{List, [], ◌∷◌, ◌++◌}
use lib.ListN.{length, take}
use Rattle.std.specs.Prelude.{Err}
use Rattle.refusal.specs.declared.Refusal.TheVariants.{BrokenObject}
use Rattle.object.specs.declared.family.Family.TheVariants.{Misauth}
use Rattle.object.specs.Family.{limit_of}
use Rattle.message.specs.Writing.{Object}
use Rattle.message.proofs.CarriedLaws.{form_ends}
use Rattle.message.proofs.CutLaws.{short_of, short_vetted, no_padding_misauth, CutsIn, saying, cut_vetted}
use Rattle.misauth.specs.AccessRequest.{access_request_types, read_access_request, AccessRequestValues, access_request_bytes}
use Rattle.misauth.specs.Accept.{accept_types, read_accept, AcceptValues, accept_bytes}
use Rattle.misauth.specs.Reject.{read_reject, RejectValues, reject_bytes}
use Rattle.misauth.proofs.AccessRequestLaws.{access_request_form}
use Rattle.misauth.proofs.AcceptLaws.{accept_form}
use Rattle.misauth.proofs.RejectLaws.{reject_form}

pub access_request_short : (v : AccessRequestValues) → length (access_request_bytes v) ≤ limit_of Misauth → (k : ℕ) → k < length (access_request_bytes v)
    → read_access_request (take k (access_request_bytes v)) ≡ Err (short_of Misauth k)
unfolding read_access_request
access_request_short v fits k less =
    rw (short_vetted Misauth (access_request_bytes v) (form_ends (access_request_form v fits)) k less 1 access_request_types)

pub accept_short : (v : AcceptValues) → length (accept_bytes v) ≤ limit_of Misauth → (k : ℕ) → k < length (accept_bytes v)
    → read_accept (take k (accept_bytes v)) ≡ Err (short_of Misauth k)
unfolding read_accept
accept_short v fits k less = rw (short_vetted Misauth (accept_bytes v) (form_ends (accept_form v fits)) k less 2 accept_types)

pub reject_short : (v : RejectValues) → length (reject_bytes v) ≤ limit_of Misauth → (k : ℕ) → k < length (reject_bytes v)
    → read_reject (take k (reject_bytes v)) ≡ Err (short_of Misauth k)
unfolding read_reject
reject_short v fits k less = rw (short_vetted Misauth (reject_bytes v) (form_ends (reject_form v fits)) k less 3 [])

module _ (xs : List Object) (o : Object) (ys : List Object) (k : ℕ) (cuts : CutsIn Misauth xs o k) (second : ℕ) (more : List ℕ) where
  pub access_request_cut : read_access_request (saying k Misauth 1 second (xs ++ (o ∷ ys)) more) ≡ Err BrokenObject
  unfolding read_access_request
  access_request_cut = rw (cut_vetted Misauth xs o ys (no_padding_misauth (xs ++ (o ∷ ys))) k cuts 1 second access_request_types more)

  pub accept_cut : read_accept (saying k Misauth 2 second (xs ++ (o ∷ ys)) more) ≡ Err BrokenObject
  unfolding read_accept
  accept_cut = rw (cut_vetted Misauth xs o ys (no_padding_misauth (xs ++ (o ∷ ys))) k cuts 2 second accept_types more)

  pub reject_cut : read_reject (saying k Misauth 3 second (xs ++ (o ∷ ys)) more) ≡ Err BrokenObject
  unfolding read_reject
  reject_cut = rw (cut_vetted Misauth xs o ys (no_padding_misauth (xs ++ (o ∷ ys))) k cuts 3 second [] more)
