-- What a login does, with any books, source address, message and buffer: it is refused and writes nothing; or both books are whole, its message was read as an
-- access request, and the answer is the one that its fields lead to.
use Rattle.std.specs.Prelude.{ℕ, true, ◌≡◌, refl, List, length, take, nat_lt, slice_index, ◌==◌, Ok}
use Rattle.octets.specs.Choice.{both, flip}
use Rattle.octets.proofs.ChoiceLaws.{pick_all, both_left, both_right, flip_false}
use Rattle.object.specs.declared.family.Family.TheVariants.{Misauth}
use Rattle.object.specs.Family.{limit_of}
use Rattle.refusal.specs.declared.Refusal.{Refusal}
use Rattle.refusal.specs.declared.Refusal.TheVariants.{SmallOutput, BrokenBook, OtherCode, UnknownRouter, WrongAuthenticator}
use Rattle.message.specs.Reading.{headed}
use Rattle.message.proofs.ToldLaws.{result_all}
use Rattle.misauth.specs.AccessRequest.{AccessRequestValues, read_access_request, access_request_told}
use Rattle.authenticator.specs.Authenticator.{is_authentic}
use Rattle.book.specs.Whole.{whole_book}
use Rattle.book.specs.Search.{secret_of}
use Rattle.server.specs.Login.{Step, refused_with, answered_login, decided_login, judged_login, logged_in}
use Rattle.theorems.specs.RefusedLaws.{not_done}

-- the books, the fields that were read, and the step that they lead to (`answered_login`: an accept or a reject)
pub record Answered (mill visitors source m out : List ℕ) (s : Step) : Type 0 where
  pub mill_whole : whole_book mill ≡ true
  pub visitors_whole : whole_book visitors ≡ true
  pub v : AccessRequestValues
  pub reads : access_request_told m (read_access_request m) ≡ Ok v
  pub is : s ≡ answered_login mill visitors (secret_of mill source) v out

-- refused, with nothing written (the server has no state), or answered
pub data Effect (mill visitors source m out : List ℕ) (s : Step) : Type 0 where
  refuses : (why : Refusal) → s ≡ refused_with why out → Effect mill visitors source m out s
  answers : Answered mill visitors source m out s → Effect mill visitors source m out s

module _ (mill visitors source m out : List ℕ) where
  -- what a login can come to
  abbrev P : Step → Type 0
  P = Effect mill visitors source m out

  module _ (w : whole_book mill ≡ true) (x : whole_book visitors ≡ true) where
    -- with both books whole a login past 3, 22 and 16 is such a step
    decides : P (decided_login mill visitors (secret_of mill source) m out)
    decides =
        result_all P (access_request_told m (read_access_request m)) _ _ (λ why _. refuses why refl) λ v e.
        answers (record { mill_whole = w; visitors_whole = x; v = v; reads = e; is = refl })

    -- so is one past the tests of its header
    judges : (end : ℕ) → P (judged_login mill visitors source m end out)
    unfolding judged_login
    judges end =
        pick_all P (flip (slice_index m 0 == 1)) _ _ (λ _. refuses OtherCode refl) λ _.
        pick_all P (length (secret_of mill source) == 0) _ _ (λ _. refuses UnknownRouter refl) λ _.
        pick_all P (flip (is_authentic (secret_of mill source) (take end m))) _ _ (λ _. refuses WrongAuthenticator refl) λ _.
        decides

  -- what a login does
  pub login_effect : Effect mill visitors source m out (logged_in mill visitors source m out)
  unfolding logged_in
  login_effect =
      pick_all P (nat_lt (length out) (limit_of Misauth)) _ _ (λ _. refuses SmallOutput refl) λ _.
      pick_all P (flip (both (whole_book mill) (whole_book visitors))) _ _ (λ _. refuses BrokenBook refl) λ f.
      let w = flip_false (both (whole_book mill) (whole_book visitors)) f in
      result_all P (headed Misauth m) _ _ (λ why _. refuses why refl) λ end _. judges (both_left (whole_book mill) _ w) (both_right (whole_book mill) _ w) end

  -- a login that is done was answered so
  pub login_answers : {n : ℕ} → (logged_in mill visitors source m out).outcome ≡ Ok n → Answered mill visitors source m out (logged_in mill visitors source m out)
  login_answers {n} = go (logged_in mill visitors source m out) login_effect
    where
      go : (s : Step) → P s → s.outcome ≡ Ok n → Answered mill visitors source m out s
      go s (refuses why is) d = absurd (not_done (rw is at d))
      go s (answers a) d = a
