-- Nothing after a message's Length is read. `followed_by m more` is m as far as its Length says, and then the bytes `more`: each reader's answer
-- is the one it gives for m, and says the same of every field.
-- Asked of m: its Length is no less than a header, and no more than the bytes given (else every reader refuses m, with 1 or 2).
use Prim.Native.Nat.{ℕ, ◌≤◌}
use mathlib.Core.Path.{◌≡◌, sym, ◌∙◌}
use mathlib.Core.List.{List, []}
use lib.ListN.{length}
use Rattle.std.specs.Prelude.{Ok, Err}
use Rattle.object.specs.declared.family.Family.TheVariants.{Misauth}
use Rattle.object.specs.Family.{header_of}
use Rattle.message.specs.Reading.{length_of}
use Rattle.message.specs.Field.{object_in, value_in, part_in, optional_in}
use Rattle.message.proofs.BeyondLaws.{followed_by, Whole, kept_length, kept_read}
use Rattle.misauth.specs.Run.{count_in, repeats_in}
use Rattle.misauth.specs.AccessRequest.{access_request_types, groups_in, access_request_at, read_access_request, access_request_told}
use Rattle.misauth.specs.Accept.{accept_types, accept_at, read_accept, accept_told}
use Rattle.misauth.specs.Reject.{reject_at, read_reject, reject_told}
use Rattle.misauth.proofs.AccessRequestLaws.{access_request_in, access_request_told_law}
use Rattle.misauth.proofs.AcceptLaws.{accept_in, accept_told_law}
use Rattle.misauth.proofs.RejectLaws.{reject_in, reject_told_law}

module _ (m : List ℕ) (header : header_of Misauth ≤ length_of m) (there : length_of m ≤ length m) (more : List ℕ) where
  whole : Whole Misauth m
  whole = record { header = header; there = there }

  pub access_request_beyond : read_access_request (followed_by m more) ≡ read_access_request m
  unfolding read_access_request access_request_at groups_in count_in value_in part_in optional_in object_in
  access_request_beyond =
      kept_read whole more 1 access_request_types Err (λ l end. Ok (access_request_at end l)) (λ body second. rw (body, second))

  pub access_request_told_beyond : access_request_told (followed_by m more) (read_access_request (followed_by m more)) ≡ access_request_told m (read_access_request m)
  unfolding access_request_in repeats_in value_in optional_in object_in
  access_request_told_beyond =
      access_request_told_law (followed_by m more)
      ∙ kept_read whole more 1 access_request_types Err (λ l end. Ok (access_request_in end l))
      (λ body second. rw (kept_length whole more, body, second))
      ∙ sym (access_request_told_law m)

  pub accept_beyond : read_accept (followed_by m more) ≡ read_accept m
  unfolding read_accept accept_at count_in part_in object_in
  accept_beyond =
      kept_read whole more 2 accept_types Err (λ l end. Ok (accept_at end l)) (λ body second. rw (body, second))

  pub accept_told_beyond : accept_told (followed_by m more) (read_accept (followed_by m more)) ≡ accept_told m (read_accept m)
  unfolding accept_in repeats_in value_in object_in
  accept_told_beyond =
      accept_told_law (followed_by m more)
      ∙ kept_read whole more 2 accept_types Err (λ l end. Ok (accept_in end l))
      (λ body second. rw (kept_length whole more, body, second))
      ∙ sym (accept_told_law m)

  pub reject_beyond : read_reject (followed_by m more) ≡ read_reject m
  unfolding read_reject reject_at count_in
  reject_beyond =
      kept_read whole more 3 [] Err (λ l end. Ok (reject_at end l)) (λ body second. rw (body, second))

  pub reject_told_beyond : reject_told (followed_by m more) (read_reject (followed_by m more)) ≡ reject_told m (read_reject m)
  unfolding reject_in repeats_in
  reject_told_beyond =
      reject_told_law (followed_by m more)
      ∙ kept_read whole more 3 [] Err (λ l end. Ok (reject_in end l))
      (λ body second. rw (kept_length whole more, body, second))
      ∙ sym (reject_told_law m)
