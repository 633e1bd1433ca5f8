-- One login at the server: 20, 19, 1, 2, 3, 22, 16, 4, 5, 6 (the paper, 'Steps' and the orders).
use Rattle.std.specs.Prelude.{ℕ, Bool, List, [], length, take, nat_lt, slice_index, ◌==◌, Result, Ok, Err}
use Rattle.octets.specs.Choice.{pick, both, flip}
use Rattle.octets.specs.Same.{same_bytes}
use Rattle.object.specs.declared.family.Family.TheVariants.{Misauth}
use Rattle.object.specs.Family.{is_small}
use Rattle.refusal.specs.declared.Refusal.{Refusal}
use Rattle.refusal.specs.declared.Refusal.TheVariants.{SmallOutput, BrokenBook, OtherCode, UnknownRouter, WrongAuthenticator}
use Rattle.refusal.specs.Step.{StepOf, writes}
use Rattle.terms.specs.Terms.{takes_type}
use Rattle.message.specs.Reading.{headed, by_result}
use Rattle.misauth.specs.AccessRequest.{AccessRequestValues, read_access_request, access_request_told}
use Rattle.misauth.specs.Accept.{AcceptValues, accept_values, accept_bytes}
use Rattle.misauth.specs.Reject.{reject_values, reject_bytes}
use Rattle.authenticator.specs.Authenticator.{sealed, is_authentic}
use Rattle.icv.specs.Icv.{check_value, session_key, masked}
use Rattle.book.specs.Whole.{whole_book}
use Rattle.book.specs.Search.{password_of, secret_of}

-- what a login hands back, how many bytes it wrote or its refusal, and every byte of the lent buffer (the paper, 'How much the contracts say')
abbrev pub Step : Type 0
Step = StepOf (Result ℕ Refusal)

-- a refusal writes nothing
abbrev pub refused_with : Refusal → List ℕ → Step
refused_with why out = record { outcome = Err why; out = out }

-- a message is written
abbrev pub sends : List ℕ → List ℕ → Step
sends message out = writes (Ok (length message)) message out

-- 'The server accepts exactly when ..': the account is in a book (else the password that the books give it is empty), its check value is the one that
-- this password makes of the authentication data, and its type is one that we take
unfoldable pub accepts_under : List ℕ → AccessRequestValues → Bool
accepts_under password v =
    both (nat_lt 0 (length password)) (both (same_bytes v.check (check_value password v.authentication)) (takes_type v.security))

-- 'The accept carries (203) the session key XOR .., and (201) that check value'; the Identifier is the request's (document 003, 3.1)
abbrev pub own_accept : (secret password : List ℕ) → AccessRequestValues → AcceptValues
own_accept secret password v = accept_values v.identifier (masked secret v.check (session_key password v.seed)) v.check []

-- the accept that the server writes
unfoldable pub accept_of : List ℕ → List ℕ → AccessRequestValues → List ℕ
accept_of secret password v = sealed secret (accept_bytes (own_accept secret password v))

-- 'Otherwise it sends a bare reject', with the request's Identifier (document 003, 3.1)
unfoldable pub reject_of : List ℕ → AccessRequestValues → List ℕ
reject_of secret v = sealed secret (reject_bytes (reject_values v.identifier []))

-- an accept or a reject goes out
abbrev pub answered_login : List ℕ → List ℕ → List ℕ → AccessRequestValues → List ℕ → Step
answered_login mill visitors secret v out =
    let password = password_of mill visitors v.account in
    pick (accepts_under password v) (sends (accept_of secret password v) out) (sends (reject_of secret v) out)

-- 4 to 6, then the answer
abbrev pub decided_login : List ℕ → List ℕ → List ℕ → List ℕ → List ℕ → Step
decided_login mill visitors secret m out =
    by_result (access_request_told m (read_access_request m)) (λ why. refused_with why out) λ v. answered_login mill visitors secret v out

-- 3, 22, 16, then 4 to 6
unfoldable pub judged_login : List ℕ → List ℕ → List ℕ → List ℕ → ℕ → List ℕ → Step
judged_login mill visitors source m end out =
    let secret = secret_of mill source in
    pick (flip (slice_index m 0 == 1)) (refused_with OtherCode out)
    (pick (length secret == 0) (refused_with UnknownRouter out)
    (pick (flip (is_authentic secret (take end m))) (refused_with WrongAuthenticator out)
    (decided_login mill visitors secret m out)))

-- one login: 20, 19 ('either book broken'), then 1 and 2 and the rest
unfoldable pub logged_in : List ℕ → List ℕ → List ℕ → List ℕ → List ℕ → Step
logged_in mill visitors source m out =
    pick (is_small Misauth out) (refused_with SmallOutput out)
    (pick (flip (both (whole_book mill) (whole_book visitors))) (refused_with BrokenBook out)
    (by_result (headed Misauth m) (λ why. refused_with why out) λ end. judged_login mill visitors source m end out))
