-- The bare readers by code (the paper, 'Numbers a call can hand back': a bare reader meets 1 to 6).
use Rattle.std.specs.Prelude.{ℕ, List, slice_index, ◌==◌, Result, Ok, Err, ⊤}
use Rattle.refusal.specs.Step.{done}
use Rattle.refusal.specs.declared.Refusal.{Refusal}
use Rattle.octets.specs.Choice.{pick}
use Rattle.object.specs.declared.family.Family.TheVariants.{Misp, Misauth}
use Rattle.refusal.specs.declared.Refusal.TheVariants.{OtherCode}
use Rattle.message.specs.Reading.{headed}
use Rattle.beacons.specs.Beacon.{read_beacon}
use Rattle.misp.specs.Request.{read_request}
use Rattle.misp.specs.Success.{read_success}
use Rattle.misp.specs.Failure.{read_failure}
use Rattle.misp.specs.Terminating.{read_terminating}
use Rattle.misauth.specs.AccessRequest.{read_access_request}
use Rattle.misauth.specs.Accept.{read_accept}
use Rattle.misauth.specs.Reject.{read_reject}
use Rattle.bare.specs.Fields.{beacon_fields, request_fields, success_fields, failure_fields, terminating_fields, access_request_fields, accept_fields, reject_fields}

-- what a reader answers without its fields: that it read, or the refusal that it met
abbrev pub answer_of : {A : Type 0} → Result A Refusal → Result ⊤ Refusal
answer_of (Err why) = Err why
answer_of (Ok fields) = done

-- 3: Code not one that a reader takes, after 1 and 2
abbrev pub other_answer : Result ℕ Refusal → Result ⊤ Refusal
other_answer (Err why) = Err why
other_answer (Ok end) = Err OtherCode

-- the reader of a MISP message's code: beacon 1, request 3, success 4, failure 8, terminating 9
unfoldable pub misp_answer : List ℕ → Result ⊤ Refusal
misp_answer m =
    let code = slice_index m 0 in
    pick (code == 1) (answer_of (beacon_fields (read_beacon m)))
    (pick (code == 3) (answer_of (request_fields (read_request m)))
    (pick (code == 4) (answer_of (success_fields (read_success m)))
    (pick (code == 8) (answer_of (failure_fields (read_failure m)))
    (pick (code == 9) (answer_of (terminating_fields (read_terminating m)))
    (other_answer (headed Misp m))))))

-- the reader of a MISAUTH message's code: request 1, accept 2, reject 3
unfoldable pub misauth_answer : List ℕ → Result ⊤ Refusal
misauth_answer m =
    let code = slice_index m 0 in
    pick (code == 1) (answer_of (access_request_fields (read_access_request m)))
    (pick (code == 2) (answer_of (accept_fields (read_accept m)))
    (pick (code == 3) (answer_of (reject_fields (read_reject m)))
    (other_answer (headed Misauth m))))
