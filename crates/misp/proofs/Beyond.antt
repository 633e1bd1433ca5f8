-- Nothing after a message's Length is read. `followed_by m more` is m as far as its Length says, and then the bytes `more`: each reader's answer
-- is the one it gives for m, and says the same of every field.
-- Asked of m: its Length is no less than a header, and no more than the bytes given (else every reader refuses m, with 1 or 2).
use Prim.Native.Nat.{ℕ, ◌≤◌}
use mathlib.Core.Path.{◌≡◌, sym, ◌∙◌}
use mathlib.Core.List.{List}
use lib.ListN.{length}
use Rattle.object.specs.declared.family.Family.TheVariants.{Misp}
use Rattle.object.specs.Family.{header_of}
use Rattle.message.specs.Reading.{length_of}
use Rattle.message.specs.Field.{object_in, value_in, part_in, optional_in}
use Rattle.message.proofs.BeyondLaws.{followed_by, Whole, kept_read}
use Rattle.std.specs.Prelude.{Ok, Err}
use Rattle.misp.specs.Request.{request_types, request_at, read_request, request_told}
use Rattle.misp.specs.Success.{success_types, success_at, read_success, success_told}
use Rattle.misp.specs.Failure.{failure_types, failure_at, read_failure}
use Rattle.misp.specs.Terminating.{terminating_types, terminating_at, read_terminating, terminating_told}
use Rattle.misp.proofs.RequestLaws.{request_in, request_told_law}
use Rattle.misp.proofs.SuccessLaws.{success_in, success_told_law}
use Rattle.misp.proofs.TerminatingLaws.{terminating_in, terminating_told_law}

module _ (m : List ℕ) (header : header_of Misp ≤ length_of m) (there : length_of m ≤ length m) (more : List ℕ) where
  whole : Whole Misp m
  whole = record { header = header; there = there }

  pub request_beyond : read_request (followed_by m more) ≡ read_request m
  unfolding read_request request_at value_in part_in optional_in object_in
  request_beyond = kept_read whole more 3 request_types Err (λ l end. Ok (request_at end l)) (λ body second. rw (body, second))

  pub request_told_beyond : request_told (followed_by m more) (read_request (followed_by m more)) ≡ request_told m (read_request m)
  unfolding request_in value_in optional_in object_in
  request_told_beyond =
      request_told_law (followed_by m more)
      ∙ kept_read whole more 3 request_types Err (λ l end. Ok (request_in end l)) (λ body second. rw (body, second))
      ∙ sym (request_told_law m)

  pub success_beyond : read_success (followed_by m more) ≡ read_success m
  unfolding read_success success_at value_in part_in optional_in object_in
  success_beyond = kept_read whole more 4 success_types Err (λ l end. Ok (success_at end l)) (λ body second. rw (body, second))

  pub success_told_beyond : success_told (followed_by m more) (read_success (followed_by m more)) ≡ success_told m (read_success m)
  unfolding success_in value_in optional_in object_in
  success_told_beyond =
      success_told_law (followed_by m more)
      ∙ kept_read whole more 4 success_types Err (λ l end. Ok (success_in end l)) (λ body second. rw (body, second))
      ∙ sym (success_told_law m)

  pub failure_beyond : read_failure (followed_by m more) ≡ read_failure m
  unfolding read_failure failure_at value_in object_in
  failure_beyond = kept_read whole more 8 failure_types Err (λ l end. Ok (failure_at end l)) (λ body _. rw body)

  pub terminating_beyond : read_terminating (followed_by m more) ≡ read_terminating m
  unfolding read_terminating terminating_at value_in part_in optional_in object_in
  terminating_beyond =
      kept_read whole more 9 terminating_types Err (λ l end. Ok (terminating_at end l)) (λ body second. rw (body, second))

  pub terminating_told_beyond : terminating_told (followed_by m more) (read_terminating (followed_by m more)) ≡ terminating_told m (read_terminating m)
  unfolding terminating_in value_in optional_in object_in
  terminating_told_beyond =
      terminating_told_law (followed_by m more)
      ∙ kept_read whole more 9 terminating_types Err (λ l end. Ok (terminating_in end l)) (λ body second. rw (body, second))
      ∙ sym (terminating_told_law m)
