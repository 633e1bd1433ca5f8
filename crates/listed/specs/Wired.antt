-- What `readauth MESSAGE` prints: the fields of a MISAUTH message 'by rising type', 'missing ones left out, repeats in their order' (docs/REPLAY.md).
use Rattle.std.specs.Prelude.{ℕ, List, [], ◌∷◌, ◌++◌, slice_index, ◌==◌}
use Rattle.octets.specs.Choice.{pick}
use Rattle.position.specs.Position.{position_bytes}
use Rattle.object.specs.declared.family.Family.TheVariants.{Misauth}
use Rattle.message.specs.Reading.{headed}
use Rattle.message.specs.Writing.{Object, object, number_object, optional_object, repeats}
use Rattle.misauth.specs.AccessRequest.{read_access_request, AccessRequestValues, access_request_told, groups_object}
use Rattle.misauth.specs.Accept.{read_accept, AcceptValues, accept_told}
use Rattle.misauth.specs.Reject.{read_reject, RejectValues, reject_told}
use Rattle.listed.specs.Text.{other_text, told_text}

-- an access request's fields (document 003, 5.1)
unfoldable pub access_request_objects : AccessRequestValues → List Object
access_request_objects v =
    object 1 v.account ∷ (optional_object 4 4 v.router ++ (repeats 33 v.proxies ++ (repeats 95 v.sixes
    ++ (object 200 v.authentication ∷ object 201 v.check ∷ object 202 v.seed ∷ object 204 (position_bytes v.position)
    ∷ number_object 205 2 v.security ∷ groups_object v.groups))))

-- an accept's (document 003, 5.2)
unfoldable pub accept_objects : AcceptValues → List Object
accept_objects v = repeats 33 v.proxies ++ (object 201 v.check ∷ object 203 v.key ∷ [])

-- a reject's (document 003, 5.3)
unfoldable pub reject_objects : RejectValues → List Object
reject_objects v = repeats 33 v.proxies

-- what is printed of a message that is read as an access request (`0 CODE IDENTIFIER TYPE=VALUE ..`)
abbrev pub access_request_text : List ℕ → List ℕ
access_request_text m =
    told_text 1 (λ (v : AccessRequestValues). v.identifier) access_request_objects (access_request_told m (read_access_request m))

-- as an accept
abbrev pub accept_text : List ℕ → List ℕ
accept_text m = told_text 2 (λ (v : AcceptValues). v.identifier) accept_objects (accept_told m (read_accept m))

-- as a reject
abbrev pub reject_text : List ℕ → List ℕ
reject_text m = told_text 3 (λ (v : RejectValues). v.identifier) reject_objects (reject_told m (read_reject m))

-- 'readauth MESSAGE': the reader of the message's code
unfoldable pub misauth_text : List ℕ → List ℕ
misauth_text m =
    let code = slice_index m 0 in
    pick (code == 1) (access_request_text m)
    (pick (code == 2) (accept_text m)
    (pick (code == 3) (reject_text m)
    (other_text (headed Misauth m))))
