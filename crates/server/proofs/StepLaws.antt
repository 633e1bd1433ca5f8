-- A login case by case: one law for each exit of `decide`, `judge` and, past 20, `login`.
use Rattle.std.specs.Prelude.{Ok, Err}
use Prim.Native.Nat.{ℕ, ◌≤◌}
use mathlib.Core.Path.{◌≡◌, refl, sym, ap, ◌∙◌}
use mathlib.Core.Bool.{Bool, true, false}
use mathlib.Core.List.{List, []}
use lib.ListN.{length, get_or, take}
use lib.Dec.{ltb, eqb}
use borrow.Author.Tests.{eq-eqb, ne_eqb, le-ltb}
use Rattle.octets.specs.Choice.{both}
use Rattle.octets.specs.Same.{same_bytes}
use Rattle.octets.specs.Put.{fitted}
use Rattle.octets.proofs.ChoiceLaws.{pick_true, pick_false, both_none}
use Rattle.octets.proofs.FittedLaws.{fitted_is}
use Rattle.object.specs.declared.family.Family.TheVariants.{Misauth}
use Rattle.object.specs.Family.{limit_of}
use Rattle.refusal.specs.declared.Refusal.{Refusal}
use Rattle.refusal.specs.declared.Refusal.TheVariants.{BrokenBook, OtherCode, UnknownRouter, WrongAuthenticator}
use Rattle.terms.specs.Terms.{takes_type}
use Rattle.message.specs.Reading.{headed}
use Rattle.octets.specs.Part.{bytes_at}
use Rattle.misauth.specs.declared.request.AccessRequest.{AccessRequest}
use Rattle.misauth.specs.AccessRequest.{AccessRequestValues, access_request_from, read_access_request, access_request_told}
use Rattle.misauth.specs.Accept.{accept_values, accept_bytes}
use Rattle.misauth.specs.Reject.{reject_values, reject_bytes}
use Rattle.authenticator.specs.Authenticator.{sealed, is_authentic}
use Rattle.icv.specs.Icv.{check_value, session_key, masked}
use Rattle.book.specs.Whole.{whole_book}
use Rattle.book.specs.Search.{password_in, password_of, secret_in, secret_of}
use Rattle.book.proofs.BookLaws.{password_in_law, secret_in_law}
use Rattle.refusal.specs.Step.{Leaves}
use Rattle.refusal.proofs.StepLaws.{leaves_same, leaves_told}
use Rattle.server.specs.Login.{Step, refused_with, sends, accepts_under, accept_of, reject_of, answered_login, decided_login, judged_login, logged_in}
use Rattle.server.specs.Parts.{Ready}
use Rattle.server.proofs.SixteenLaws.{read_sixteen}

-- a refusal, where the step is one
pub leaves_refused : {t : Step} {out : List ℕ} {why : Refusal} → t ≡ refused_with why out → Leaves t (Err why) out
leaves_refused e = leaves_same e (leaves_told refl)

-- the exits of `decide`: 4 to 6, the accept, the reject
module _ (mill visitors secret m out : List ℕ) where
  abbrev decided : Step
  decided = decided_login mill visitors secret m out

  -- 4 to 6
  pub reader_refuses : {why : Refusal} → read_access_request m ≡ Err why → decided ≡ refused_with why out
  unfolding access_request_told
  reader_refuses e = rw e

  module _ (ready : Ready mill visitors out) (r : AccessRequest) (e : read_access_request m ≡ Ok r) where
    abbrev v : AccessRequestValues
    v = access_request_from m r

    -- it was read: the books decide
    read_got : decided ≡ answered_login mill visitors secret v out
    unfolding access_request_told
    read_got = rw e

    -- the password that the books give the account
    abbrev right : List ℕ
    right = password_of mill visitors v.account

    module _ {name password authentication check : List ℕ} {test : Bool} (of_name : name ≡ bytes_at m r.account)
        (of_password : password ≡ password_in mill visitors name) (of_authentication : authentication ≡ fitted 16 (bytes_at m r.authentication))
        (of_check : check ≡ fitted 16 (bytes_at m r.check))
        (of_test : test ≡ both (ltb 0 (length password)) (both (same_bytes check (check_value password authentication)) (takes_type r.security))) where
      -- what the code has is what the definition names
      is_password : password ≡ right
      is_password =
          of_password ∙ ap (password_in mill visitors) of_name ∙ password_in_law mill visitors v.account ready.mill_whole ready.visitors_whole

      is_authentication : authentication ≡ v.authentication
      is_authentication = of_authentication ∙ fitted_is 16 v.authentication (read_sixteen m r e).authentication

      is_check : check ≡ v.check
      is_check = of_check ∙ fitted_is 16 v.check (read_sixteen m r e).check

      is_test : test ≡ accepts_under right v
      unfolding accepts_under
      is_test = of_test ∙ rw (is_password, is_authentication, is_check)

      -- an accept
      pub accepted : test ≡ true → {seed : List ℕ} → seed ≡ fitted 16 (bytes_at m r.seed)
          → decided ≡ sends (sealed secret (accept_bytes (accept_values r.identifier (masked secret check (session_key password seed)) check []))) out
      unfolding accept_of
      accepted t {seed} of_seed =
          let is_seed : seed ≡ v.seed = of_seed ∙ fitted_is 16 v.seed (read_sixteen m r e).seed in
          read_got
          ∙ pick_true (accepts_under right v) (sends (accept_of secret right v) out) (sends (reject_of secret v) out) (sym is_test ∙ t)
          ∙ rw (is_password, is_check, is_seed)

      -- a reject
      pub rejected : test ≡ false → decided ≡ sends (sealed secret (reject_bytes (reject_values r.identifier []))) out
      unfolding reject_of
      rejected t =
          read_got
          ∙ pick_false (accepts_under right v) (sends (accept_of secret right v) out) (sends (reject_of secret v) out) (sym is_test ∙ t)

-- the exits of `judge`: 3, 22, 16, then what `decide` does
module _ (mill visitors source m : List ℕ) (end : ℕ) (out : List ℕ) {code : ℕ} (of_code : code ≡ get_or m 0 0) where
  abbrev step : Step
  step = judged_login mill visitors source m end out

  -- 3
  pub other_code : (code ≡ 1 → ⊥) → step ≡ refused_with OtherCode out
  unfolding judged_login
  other_code n = rw (ne_eqb (get_or m 0 0) 1 (λ q. n (of_code ∙ q)))

  module _ (one : code ≡ 1) (w : whole_book mill ≡ true) {secret : List ℕ} (of_secret : secret ≡ secret_in mill source) where
    is_secret : secret ≡ secret_of mill source
    is_secret = of_secret ∙ secret_in_law mill source w

    is_one : eqb (get_or m 0 0) 1 ≡ true
    is_one = eq-eqb (get_or m 0 0) 1 (sym of_code ∙ one)

    -- 22
    pub unknown_router : length secret ≡ 0 → step ≡ refused_with UnknownRouter out
    unfolding judged_login
    unknown_router z = rw (is_one, eq-eqb (length (secret_of mill source)) 0 (ap length (sym is_secret) ∙ z))

    module _ (known : length secret ≡ 0 → ⊥) {part : List ℕ} {test : Bool} (of_part : part ≡ take end m) (of_test : test ≡ is_authentic secret part) where
      is_known : eqb (length (secret_of mill source)) 0 ≡ false
      is_known = ne_eqb (length (secret_of mill source)) 0 (λ q. known (ap length is_secret ∙ q))

      is_authentic_law : test ≡ is_authentic (secret_of mill source) (take end m)
      is_authentic_law = of_test ∙ rw (is_secret, of_part)

      -- 16
      pub wrong_authenticator : test ≡ false → step ≡ refused_with WrongAuthenticator out
      unfolding judged_login
      wrong_authenticator t = rw (is_one, is_known, sym is_authentic_law ∙ t)

      -- past them
      pub authentic : test ≡ true → step ≡ decided_login mill visitors secret m out
      unfolding judged_login
      authentic t = rw (is_one, is_known, sym is_authentic_law ∙ t, is_secret)

-- the exits of `login` past 20: 19, 1 and 2, then what `judge` does
module _ (mill visitors source m out : List ℕ) {limit : ℕ} (of_limit : limit ≡ limit_of Misauth) where
  abbrev whole_step : Step
  whole_step = logged_in mill visitors source m out

  module _ (room : limit ≤ length out) where
    is_room : ltb (length out) (limit_of Misauth) ≡ false
    is_room = le-ltb (length out) (limit_of Misauth) (rw of_limit at room)

    -- 19, by the mill's book
    pub broken_mill : whole_book mill ≡ false → whole_step ≡ refused_with BrokenBook out
    unfolding logged_in
    broken_mill b = rw (is_room, b)

    -- 19, by the visitors'
    pub broken_visitors : whole_book visitors ≡ false → whole_step ≡ refused_with BrokenBook out
    unfolding logged_in
    broken_visitors b = rw (is_room, b, both_none (whole_book mill))

    module _ (w : whole_book mill ≡ true) (x : whole_book visitors ≡ true) where
      -- past both
      pub is_ready : Ready mill visitors out
      is_ready = record { mill_whole = w; visitors_whole = x; room = rw of_limit at room }

      -- 1 and 2
      pub bad_header : {why : Refusal} → headed Misauth m ≡ Err why → whole_step ≡ refused_with why out
      unfolding logged_in
      bad_header h = rw (is_room, w, x, h)

      -- past the header
      pub good_header : {end : ℕ} → headed Misauth m ≡ Ok end → whole_step ≡ judged_login mill visitors source m end out
      unfolding logged_in
      good_header h = rw (is_room, w, x, h)
