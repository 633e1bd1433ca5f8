-- How many repeats a reader of MISAUTH counts: those of the message, which ends where its Length says.
use Prim.Native.Nat.{ℕ}
use mathlib.Core.Path.{◌≡◌, refl}
use mathlib.Core.List.{List, []}
use Rattle.std.proofs.Common.{Result, Ok, Err}
use Rattle.refusal.specs.declared.Refusal.{Refusal}
use Rattle.object.specs.declared.family.Family.TheVariants.{Misauth}
use Rattle.message.specs.Reading.{length_of}
use Rattle.message.proofs.EndsLaws.{read_all}
use Rattle.misauth.specs.declared.request.AccessRequest.{AccessRequest}
use Rattle.misauth.specs.declared.accept.Accept.{Accept}
use Rattle.misauth.specs.declared.reject.Reject.{Reject}
use Rattle.misauth.specs.Run.{count_in}
use Rattle.misauth.specs.AccessRequest.{access_request_types, access_request_at, read_access_request}
use Rattle.misauth.specs.Accept.{accept_types, accept_at, read_accept}
use Rattle.misauth.specs.Reject.{reject_at, read_reject}

-- an accept: its count, where it is read
abbrev AcceptCounted : List ℕ → Result Accept Refusal → Type 0
AcceptCounted m (Err why) = Unit
AcceptCounted m (Ok a) = a.proxies ≡ count_in 33 (length_of m) m

accept_counted : (m : List ℕ) → AcceptCounted m (read_accept m)
unfolding read_accept accept_at
accept_counted m = read_all Misauth 2 accept_types m Err (AcceptCounted m) (λ end. Ok (accept_at end m)) (λ _. tt) refl

pub accept_count : (m : List ℕ) (a : Accept) → read_accept m ≡ Ok a → a.proxies ≡ count_in 33 (length_of m) m
accept_count m a e = rw e at (accept_counted m)

-- a reject: its count, where it is read
abbrev RejectCounted : List ℕ → Result Reject Refusal → Type 0
RejectCounted m (Err why) = Unit
RejectCounted m (Ok r) = r.proxies ≡ count_in 33 (length_of m) m

reject_counted : (m : List ℕ) → RejectCounted m (read_reject m)
unfolding read_reject reject_at
reject_counted m = read_all Misauth 3 [] m Err (RejectCounted m) (λ end. Ok (reject_at end m)) (λ _. tt) refl

pub reject_count : (m : List ℕ) (r : Reject) → read_reject m ≡ Ok r → r.proxies ≡ count_in 33 (length_of m) m
reject_count m r e = rw e at (reject_counted m)

-- an access request: its two counts, where it is read
abbrev AccessCounted : List ℕ → Result AccessRequest Refusal → Type 0
AccessCounted m (Err why) = Unit
AccessCounted m (Ok r) = (r.proxies ≡ count_in 33 (length_of m) m) × (r.sixes ≡ count_in 95 (length_of m) m)

access_counted : (m : List ℕ) → AccessCounted m (read_access_request m)
unfolding read_access_request access_request_at
access_counted m =
    read_all Misauth 1 access_request_types m Err (AccessCounted m) (λ end. Ok (access_request_at end m)) (λ _. tt) (refl, refl)

pub access_request_count : (m : List ℕ) (r : AccessRequest) → read_access_request m ≡ Ok r
    → (r.proxies ≡ count_in 33 (length_of m) m) × (r.sixes ≡ count_in 95 (length_of m) m)
access_request_count m r e = rw e at (access_counted m)
