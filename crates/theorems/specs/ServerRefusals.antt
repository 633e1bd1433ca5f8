-- What a refused login leaves, for every pair of books, source address, message and buffer: nothing is written and the buffer stays
-- (the server has no state).
use Rattle.std.specs.Prelude.{ℕ, ◌≡◌, List, Err}
use Rattle.octets.proofs.ChoiceLaws.{never, pick_all}
use Rattle.refusal.specs.declared.Refusal.{Refusal}
use Rattle.misauth.specs.AccessRequest.{AccessRequestValues}
use Rattle.book.specs.Search.{password_of, secret_of}
use Rattle.server.specs.Login.{Step, refused_with, accepts_under, answered_login, logged_in}
use Rattle.theorems.specs.RefusedLaws.{told_why}
use Rattle.theorems.specs.ServerAnswers.{Effect, refuses, answers, login_effect}

-- A login that is refused writes nothing (`refused_with`: the buffer as it was).
abbrev pub Quiet : List ℕ → Step → Type 0
Quiet out s = (why : Refusal) → s.outcome ≡ Err why → s ≡ refused_with why out

module _ (mill visitors source m out : List ℕ) where
  -- an accept or a reject is no refusal
  answered_done : {why : Refusal} (v : AccessRequestValues) → (answered_login mill visitors (secret_of mill source) v out).outcome ≡ Err why → ⊥
  answered_done {why} v =
      pick_all (λ (s : Step). s.outcome ≡ Err why → ⊥) (accepts_under (password_of mill visitors v.account) v) _ _ (λ _ e. never cc) λ _ e. never cc

  -- a login that is refused writes nothing
  pub login_refused : Quiet out (logged_in mill visitors source m out)
  login_refused = go (logged_in mill visitors source m out) (login_effect mill visitors source m out)
    where
      go : (s : Step) → Effect mill visitors source m out s → Quiet out s
      go s (refuses w is) why f = let same : w ≡ why = told_why (rw is at f) in rw same at is
      go s (answers a) why f = absurd (answered_done a.v (rw a.is at f))
