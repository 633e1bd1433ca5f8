-- A reader's refusal is one of 1 to 6 (the paper: 'a bare reader 1 to 6'), for each kind of message that a node's or a router's call takes. So it is not one
-- after which nothing changes, and has no reason.
use Rattle.std.specs.Prelude.{ℕ, ◌≤◌, false, ◌≡◌, List, [], None, Err, Result}
use Rattle.std.proofs.Common.{sym, ◌∙◌, arith, ne_eqb}
use Rattle.object.specs.declared.family.Family.TheVariants.{Misp, Misauth}
use Rattle.refusal.specs.declared.Refusal.{Refusal}
use Rattle.refusal.specs.Table.{refusal_number}
use Rattle.message.proofs.RefusedLaws.{told_refused}
use Rattle.beacons.specs.Beacon.{beacon_types, read_beacon, beacon_told}
use Rattle.misp.specs.Request.{request_types, read_request, request_told}
use Rattle.misp.specs.Success.{success_types, read_success, success_told}
use Rattle.misp.specs.Terminating.{terminating_types, read_terminating, terminating_told}
use Rattle.misp.specs.Failure.{failure_types, failure_at, read_failure}
use Rattle.beacons.proofs.BeaconLaws.{beacon_in, beacon_told_law}
use Rattle.misp.proofs.RequestLaws.{request_in, request_told_law}
use Rattle.misp.proofs.SuccessLaws.{success_in, success_told_law}
use Rattle.misp.proofs.TerminatingLaws.{terminating_in, terminating_told_law}
use Rattle.misauth.specs.Accept.{accept_types, read_accept, accept_told}
use Rattle.misauth.specs.Reject.{read_reject, reject_told}
use Rattle.misauth.proofs.AcceptLaws.{accept_in, accept_told_law}
use Rattle.misauth.proofs.RejectLaws.{reject_in, reject_told_law}
use Rattle.theorems.specs.RefusedLaws.{changes_nothing, reason_of}

-- what a message reads as is refused with 1 to 6 alone
abbrev pub Low : {A : Type 0} → Result A Refusal → Type 0
Low t = (why : Refusal) → t ≡ Err why → refusal_number why ≤ 6

module _ (m : List ℕ) where
  -- a beacon is refused with 1 to 6 alone
  pub beacon_low : Low (beacon_told m (read_beacon m))
  beacon_low why e = told_refused Misp 1 beacon_types m (λ end. beacon_in end m) why (sym (beacon_told_law m) ∙ e)

  -- so is a request
  pub request_low : Low (request_told m (read_request m))
  request_low why e = told_refused Misp 3 request_types m (λ end. request_in end m) why (sym (request_told_law m) ∙ e)

  -- so is a success
  pub success_low : Low (success_told m (read_success m))
  success_low why e = told_refused Misp 4 success_types m (λ end. success_in end m) why (sym (success_told_law m) ∙ e)

  -- so is a failure
  pub failure_low : Low (read_failure m)
  unfolding read_failure
  failure_low why e = told_refused Misp 8 failure_types m (λ end. failure_at end m) why e

  -- so is a terminating message
  pub terminating_low : Low (terminating_told m (read_terminating m))
  terminating_low why e = told_refused Misp 9 terminating_types m (λ end. terminating_in end m) why (sym (terminating_told_law m) ∙ e)

  -- so is an accept
  pub accept_low : Low (accept_told m (read_accept m))
  accept_low why e = told_refused Misauth 2 accept_types m (λ end. accept_in end m) why (sym (accept_told_law m) ∙ e)

  -- so is a reject
  pub reject_low : Low (reject_told m (read_reject m))
  reject_low why e = told_refused Misauth 3 [] m (λ end. reject_in end m) why (sym (reject_told_law m) ∙ e)

module _ (why : Refusal) (low : refusal_number why ≤ 6) where
  -- after it what has lapsed goes
  pub low_changes : changes_nothing why ≡ false
  low_changes = rw (ne_eqb (refusal_number why) 20 (λ e. omega arith), ne_eqb (refusal_number why) 7 (λ e. omega arith))

  -- and the router sends no failure
  pub low_reason : reason_of (refusal_number why) ≡ None
  low_reason =
      rw (
        ne_eqb (refusal_number why) 9 (λ e. omega arith),
        ne_eqb (refusal_number why) 10 (λ e. omega arith),
        ne_eqb (refusal_number why) 12 (λ e. omega arith),
        ne_eqb (refusal_number why) 14 (λ e. omega arith),
      )
