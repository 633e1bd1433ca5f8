-- What a login does not depend on.
-- 1. What stands after the message's Length: `followed_by m more` is m as far as its Length says, and then the bytes `more`, and the server does with it what
--    it does with m. Asked of m (`Whole`): its Length is no less than a header and no more than the bytes given, else the server refuses m with 1 or 2 at the latest.
-- 2. What the lent buffer held: with two buffers of one length the outcome is the same, the bytes written are the same, and past them each buffer is as it was.
use Rattle.std.specs.Prelude.{ℕ, refl, List, length, take, nat_lt, slice_index, ◌==◌, Result, Ok, Err}
use Rattle.std.proofs.Math.Path.{◌≡◌}
use Rattle.std.proofs.Common.{lit<}
use Rattle.octets.specs.Choice.{both, flip}
use Rattle.refusal.specs.declared.Refusal.{Refusal}
use Rattle.object.specs.declared.family.Family.TheVariants.{Misauth}
use Rattle.object.specs.Family.{limit_of}
use Rattle.message.specs.Reading.{headed}
use Rattle.message.proofs.BeyondLaws.{followed_by, Whole, kept_byte, kept_head, kept_take}
use Rattle.message.proofs.EndsLaws.{ends_at_length}
use Rattle.misauth.specs.AccessRequest.{read_access_request, access_request_told}
use Rattle.misauth.proofs.Beyond.{access_request_told_beyond}
use Rattle.authenticator.specs.Authenticator.{is_authentic}
use Rattle.book.specs.Whole.{whole_book}
use Rattle.book.specs.Search.{password_of, secret_of}
use Rattle.server.specs.Login.{Step, refused_with, sends, accepts_under, accept_of, reject_of, decided_login, judged_login, logged_in}
use Rattle.theorems.specs.Alike.{SameFrom, sent_alike, pick_alike, result_alike}

-- AFTER THE LENGTH
module _ {m : List ℕ} (w : Whole Misauth m) (more mill visitors source out : List ℕ) where
  -- what stands after an access request's Length decides nothing
  pub login_beyond : logged_in mill visitors source (followed_by m more) out ≡ logged_in mill visitors source m out
  unfolding logged_in judged_login
  login_beyond =
      pick_alike ◌≡◌ (nat_lt (length out) (limit_of Misauth)) _ _ _ _ (λ _. refl) λ _.
      pick_alike ◌≡◌ (flip (both (whole_book mill) (whole_book visitors))) _ _ _ _ (λ _. refl) λ _.
      rw (kept_head w more)
      (result_alike ◌≡◌ (headed Misauth m) _ _ _ _ (λ why. refl) λ end e.
      rw (
        ends_at_length Misauth m end e,
        kept_byte w more 0 (lit< tt),
        kept_take w more,
        access_request_told_beyond m w.header w.there more,
      ))

-- THE BUFFER BEFORE
-- how many bytes the outcome says were written
abbrev pub written : Result ℕ Refusal → ℕ
written (Err why) = 0
written (Ok n) = n

module _ (out out' : List ℕ) where
  -- two steps that are alike, one for each buffer
  abbrev A : Step → Step → Type 0
  A = SameFrom written out out'

  -- steps that refuse are alike: they write nothing
  quiet : (why : Refusal) → A (refused_with why out) (refused_with why out')
  quiet why = record { same = refl; bytes = refl; past = refl; past' = refl }

  -- so are steps that send one message
  sent : (message : List ℕ) → A (sends message out) (sends message out')
  sent message = sent_alike written _ message out out' refl

  module _ (mill visitors source m : List ℕ) where
    -- the secret that the mill's book gives the router
    abbrev secret : List ℕ
    secret = secret_of mill source

    -- so are those of a login past the tests of its header, 3, 22 and 16
    by_read : A (decided_login mill visitors secret m out) (decided_login mill visitors secret m out')
    by_read =
        result_alike A (access_request_told m (read_access_request m)) _ _ _ _ (λ why. quiet _) λ v _.
        let password = password_of mill visitors v.account in
        pick_alike A (accepts_under password v) _ _ _ _ (λ _. sent (accept_of secret password v)) λ _. sent (reject_of secret v)

    -- so are those of a login past the tests of its header
    by_message : (end : ℕ) → A (judged_login mill visitors source m end out) (judged_login mill visitors source m end out')
    unfolding judged_login
    by_message end =
        pick_alike A (flip (slice_index m 0 == 1)) _ _ _ _ (λ _. quiet _) λ _.
        pick_alike A (length secret == 0) _ _ _ _ (λ _. quiet _) λ _.
        pick_alike A (flip (is_authentic secret (take end m))) _ _ _ _ (λ _. quiet _) λ _.
        by_read

    -- what the buffer held decides nothing
    pub login_alike : length out' ≡ length out
        → SameFrom written out out' (logged_in mill visitors source m out) (logged_in mill visitors source m out')
    unfolding logged_in
    login_alike same =
        rw same
        (pick_alike A (nat_lt (length out) (limit_of Misauth)) _ _ _ _ (λ _. quiet _) λ _.
        pick_alike A (flip (both (whole_book mill) (whole_book visitors))) _ _ _ _ (λ _. quiet _) λ _.
        result_alike A (headed Misauth m) _ _ _ _ (λ why. quiet _) λ end _. by_message end)
