-- The server accepts exactly under the paper's rule; otherwise it sends a bare reject. Of every login that is not refused: its message was read as an
-- access request with some fields v, and then either the rule holds of v and the accept goes out, or it does not and the reject goes out.
use Rattle.std.specs.Prelude.{ℕ, ◌≤◌, ◌<◌, Bool, true, false, ◌≡◌, refl, ◌⊎◌, List, [], ◌∷◌, length, take, nat_lt, slice_index, Ok}
use Rattle.std.proofs.Math.Path.{sym}
use Rattle.std.proofs.Common.{ap, ◌∙◌, inl, inr, ⊎_elim, arith, ltb-true, ltb-false}
use Rattle.octets.specs.Same.{same_bytes}
use Rattle.octets.specs.Numbers.{bytes_of}
use Rattle.octets.proofs.ChoiceLaws.{not_both, pick_all, both_left, both_right, both_true}
use Rattle.octets.proofs.SameLaws.{same_true, true_same}
use Rattle.object.specs.declared.family.Family.TheVariants.{Misauth}
use Rattle.terms.specs.Terms.{takes_type}
use Rattle.terms.proofs.TypeLaws.{takes_type_law, type_takes}
use Rattle.message.specs.Writing.{head_bytes, encoded, message_of}
use Rattle.message.proofs.ToldLaws.{told_from}
use Rattle.misauth.specs.AccessRequest.{AccessRequestValues, access_request_types, read_access_request, access_request_told}
use Rattle.misauth.specs.Reject.{reject_values, reject_bytes}
use Rattle.misauth.proofs.AccessRequestLaws.{access_request_in, access_request_told_law}
use Rattle.authenticator.specs.Authenticator.{is_authentic}
use Rattle.authenticator.proofs.AuthenticatorLaws.{sealed_length, sealed_head, authentic_written}
use Rattle.icv.specs.Icv.{check_value}
use Rattle.book.specs.Whole.{among, whole_book}
use Rattle.book.specs.Search.{password_of, secret_of}
use Rattle.book.proofs.BookLaws.{names_of, none_empty, empty_none}
use Rattle.server.specs.Login.{Step, sends, accepts_under, accept_of, reject_of, answered_login, logged_in}
use Rattle.theorems.specs.ServerAnswers.{login_answers}

-- 'the account is in a book, the check value equals HMAC-MD5 of the authentication data under its password, and the security type is 2 or 3'
pub record Rule (mill visitors : List ℕ) (v : AccessRequestValues) : Type 0 where
  pub account : (among v.account (names_of mill) ≡ true) ⊎ (among v.account (names_of visitors) ≡ true)
  pub check : v.check ≡ check_value (password_of mill visitors v.account) v.authentication
  pub kind : (v.security ≡ 2) ⊎ (v.security ≡ 3)

-- what goes out
pub data Decided (mill visitors source : List ℕ) (v : AccessRequestValues) (out : List ℕ) (s : Step) : Type 0 where
  accepts : Rule mill visitors v → s ≡ sends (accept_of (secret_of mill source) (password_of mill visitors v.account) v) out
      → Decided mill visitors source v out s
  rejects : (Rule mill visitors v → ⊥) → s ≡ sends (reject_of (secret_of mill source) v) out → Decided mill visitors source v out s

-- a login that is not refused: what was read, and what goes out by the rule
pub record Ruled (mill visitors source m out : List ℕ) (s : Step) : Type 0 where
  pub v : AccessRequestValues
  pub reads : access_request_told m (read_access_request m) ≡ Ok v
  -- the Identifier, which both answers have (`own_accept`; of the reject's bytes `Bare`, below), is the request's
  pub identifier : v.identifier ≡ slice_index m 1
  pub decided : Decided mill visitors source v out s

-- no bytes are the empty string
no_bytes : (l : List ℕ) → length l ≤ 0 → l ≡ []
no_bytes [] h = refl
no_bytes (x ∷ l) h = absurd (omega arith)

-- the tests say the rule, of whole books
module _ (mill visitors : List ℕ) (w : whole_book mill ≡ true) (x : whole_book visitors ≡ true) (v : AccessRequestValues) where
  -- the password that the books give the account
  abbrev password : List ℕ
  password = password_of mill visitors v.account

  -- where there is one the account is in a book
  in_book : 0 < length password → (among v.account (names_of mill) ≡ true) ⊎ (among v.account (names_of visitors) ≡ true)
  in_book h = go (among v.account (names_of mill)) (among v.account (names_of visitors)) refl refl
    where
      go : (a b : Bool) → among v.account (names_of mill) ≡ a → among v.account (names_of visitors) ≡ b → (a ≡ true) ⊎ (b ≡ true)
      go true b e f = inl refl
      go false true e f = inr refl
      go false false e f = let z : length password ≡ 0 = ap length (none_empty mill visitors v.account w x e f) in absurd (omega arith)

  -- and the other way round
  book_in : (among v.account (names_of mill) ≡ true) ⊎ (among v.account (names_of visitors) ≡ true) → nat_lt 0 (length password) ≡ true
  book_in h = go (nat_lt 0 (length password)) refl
    where
      go : (b : Bool) → nat_lt 0 (length password) ≡ b → b ≡ true
      go true e = refl
      go false e =
          let z = empty_none mill visitors v.account w x (no_bytes password (ltb-false 0 (length password) e)) in
          ⊎_elim (λ h. sym z.0 ∙ h) (λ h. sym z.1 ∙ h) h

  -- where the server's test passes the rule holds
  under_rule : accepts_under password v ≡ true → Rule mill visitors v
  unfolding accepts_under
  under_rule h =
      let rest = both_right (nat_lt 0 (length password)) _ h in
      record {
        account = in_book (ltb-true 0 (length password) (both_left (nat_lt 0 (length password)) _ h));
        check = same_true v.check (check_value password v.authentication) (both_left _ (takes_type v.security) rest);
        kind = takes_type_law v.security (both_right (same_bytes v.check (check_value password v.authentication)) _ rest);
      }

  -- and the other way round
  rule_under : Rule mill visitors v → accepts_under password v ≡ true
  unfolding accepts_under
  rule_under h =
      both_true _ _ (book_in h.account)
      (both_true _ _ (true_same v.check (check_value password v.authentication) h.check) (type_takes v.security h.kind))

module _ (mill visitors source m out : List ℕ) where
  -- the Identifier that is read is the message's second byte
  echoed : (v : AccessRequestValues) → access_request_told m (read_access_request m) ≡ Ok v → v.identifier ≡ slice_index m 1
  unfolding access_request_in
  echoed v e =
      sym
      (ap (λ (x : AccessRequestValues). x.identifier)
      (told_from Misauth 1 access_request_types m (λ end. access_request_in end m) v (sym (access_request_told_law m) ∙ e)).1)

  -- with whole books, what goes out for the fields is what the rule says
  decides : whole_book mill ≡ true → whole_book visitors ≡ true → (v : AccessRequestValues)
      → Decided mill visitors source v out (answered_login mill visitors (secret_of mill source) v out)
  decides w x v =
      pick_all (Decided mill visitors source v out) (accepts_under (password_of mill visitors v.account) v) _ _
      (λ t. accepts (under_rule mill visitors w x v t) refl)
      (λ f. rejects (λ h. not_both (rule_under mill visitors w x v h) f) refl)

  -- THE RULE, of every login that is done
  pub login_rule : {n : ℕ} → (logged_in mill visitors source m out).outcome ≡ Ok n → Ruled mill visitors source m out (logged_in mill visitors source m out)
  login_rule d =
      let a = login_answers mill visitors source m out d in
      record { v = a.v; reads = a.reads; identifier = echoed a.v a.reads; decided = rw a.is (decides a.mill_whole a.visitors_whole a.v) }

-- THE REJECT. A bare one has 20 bytes: its Code, the Identifier, its Length and a right Authenticator.
pub record Bare (secret : List ℕ) (identifier : ℕ) (l : List ℕ) : Type 0 where
  pub size : length l ≡ 20
  pub head : take 4 l ≡ 3 ∷ identifier ∷ 0 ∷ 20 ∷ []
  pub authentic : is_authentic secret l ≡ true

module _ (secret : List ℕ) (v : AccessRequestValues) where
  -- the server's reject is bare
  pub reject_bare : Bare secret v.identifier (reject_of secret v)
  unfolding reject_of reject_bytes message_of head_bytes encoded bytes_of
  reject_bare =
      let bare = reject_bytes (reject_values v.identifier []) in
      record {
        size = sealed_length secret bare ∙ refl;
        head = sealed_head secret bare ∙ refl;
        authentic = authentic_written secret bare (omega arith);
      }
