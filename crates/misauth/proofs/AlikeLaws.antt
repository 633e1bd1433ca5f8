-- The readers of an access request and of an accept do not read the Authenticator: of two messages that differ in it alone each tells the same.
use Prim.Native.Nat.{ℕ}
use native.Mathlib.Omega.{arith}
use mathlib.Core.Path.{◌≡◌, sym, ◌∙◌}
use mathlib.Core.List.{List}
use Rattle.std.specs.Prelude.{Ok, Err}
use Rattle.object.specs.declared.family.Family.TheVariants.{Misauth}
use Rattle.message.specs.Reading.{length_of}
use Rattle.message.proofs.AlikeLaws.{Alike, alike_byte, alike_length, alike_body, alike_object, alike_value, alike_optional, alike_read}
use Rattle.misauth.specs.Run.{repeats_in}
use Rattle.misauth.specs.AccessRequest.{access_request_types, read_access_request, access_request_told}
use Rattle.misauth.specs.Accept.{accept_types, read_accept, accept_told}
use Rattle.misauth.proofs.AccessRequestLaws.{access_request_in, access_request_told_law}
use Rattle.misauth.proofs.AcceptLaws.{accept_in, accept_told_law}

module _ {m m' : List ℕ} (a : Alike Misauth m m') where
  alike_repeats : (t : ℕ) → repeats_in t (length_of m) m ≡ repeats_in t (length_of m') m'
  unfolding repeats_in
  alike_repeats t = rw (alike_length a, alike_body a (length_of m'))

  alike_accept : (end : ℕ) → accept_in end m ≡ accept_in end m'
  unfolding accept_in
  alike_accept end = rw (alike_byte a 1 (omega arith), alike_value a 203 end, alike_value a 201 end, alike_repeats 33)

  pub accept_alike : accept_told m (read_accept m) ≡ accept_told m' (read_accept m')
  accept_alike =
      accept_told_law m
      ∙ alike_read a 2 accept_types Err (λ x end. Ok (accept_in end x)) (λ end. rw (alike_accept end))
      ∙ sym (accept_told_law m')

  alike_access_request : (end : ℕ) → access_request_in end m ≡ access_request_in end m'
  unfolding access_request_in
  alike_access_request end =
      rw (
        alike_byte a 1 (omega arith),
        alike_value a 1 end,
        alike_value a 200 end,
        alike_value a 201 end,
        alike_value a 202 end,
        alike_value a 205 end,
        alike_value a 204 end,
        alike_optional a 4 end,
        alike_repeats 33,
        alike_repeats 95,
        alike_object a 206 end,
      )

  pub access_request_alike : access_request_told m (read_access_request m) ≡ access_request_told m' (read_access_request m')
  access_request_alike =
      access_request_told_law m
      ∙ alike_read a 1 access_request_types Err (λ x end. Ok (access_request_in end x)) (λ end. rw (alike_access_request end))
      ∙ sym (access_request_told_law m')
