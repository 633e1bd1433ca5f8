-- A login at the server: it refuses, it grants, or it rejects.
use Rattle.std.specs.Prelude.{ℕ, ◌≡◌, refl, List, [], ◌∷◌, Result, Ok, Err}
use Rattle.std.proofs.Common.{ap}
use Rattle.refusal.specs.declared.Refusal.{Refusal}
use Rattle.octets.proofs.ChoiceLaws.{pick_all}
use Rattle.misauth.specs.AccessRequest.{AccessRequestValues, read_access_request, access_request_told}
use Rattle.book.specs.Search.{password_of, secret_of}
use Rattle.server.specs.Login.{Step, sends, accepts_under, accept_of, reject_of, answered_login, logged_in}
use Rattle.theorems.specs.Alike.{written_is}
use Rattle.theorems.specs.ServerAnswers.{login_answers}
use Rattle.link.specs.World.{from_server, server_sends, wrote_server}
use Rattle.link.specs.Can.{ServerCan, refuses, rejects, grants}
use Rattle.link.specs.WrittenLaws.{reject_codes}

module _ (mill visitors source m out : List ℕ) where
  -- what a login can do, where its step is s
  abbrev Can : Step → Type 0
  Can s = ServerCan mill visitors source m (wrote_server s)

  -- the secret that the mill's book gives the router
  abbrev secret : List ℕ
  secret = secret_of mill source

  -- an answer goes to the router
  sent : (message : List ℕ) → wrote_server (sends message out) ≡ from_server message ∷ []
  sent message = ap (λ (l : List ℕ). from_server l ∷ []) (written_is message out)

  -- by the server's rule it grants or rejects
  decides : (v : AccessRequestValues) → access_request_told m (read_access_request m) ≡ Ok v → Can (answered_login mill visitors secret v out)
  decides v e =
      let password = password_of mill visitors v.account in
      pick_all Can (accepts_under password v) (sends (accept_of secret password v) out) (sends (reject_of secret v) out)
      (λ t. grants v e t (sent (accept_of secret password v)))
      (λ _. rejects (reject_of secret v) (reject_codes secret v) (sent (reject_of secret v)))

  -- what a login can do
  pub server_logged_in : Can (logged_in mill visitors source m out)
  server_logged_in = go (logged_in mill visitors source m out).outcome refl
    where
      go : (a : Result ℕ Refusal) → (logged_in mill visitors source m out).outcome ≡ a → Can (logged_in mill visitors source m out)
      go (Err why) e =
          let s = logged_in mill visitors source m out in
          refuses (ap (λ (a : Result ℕ Refusal). server_sends a s.out) e)
      go (Ok n) e = let a = login_answers mill visitors source m out e in rw a.is (decides a.v a.reads)
