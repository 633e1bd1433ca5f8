-- A MISAUTH message that was written and sealed: its header passes, it is authentic, and it has its Code and its Identifier.
use Rattle.std.specs.Prelude.{ℕ, ◌+◌, ◌≤◌, true, ◌≡◌, take, slice_index, Ok}
use Rattle.std.proofs.Common.{sym, ◌∙◌, arith, take_all}
use Rattle.std.proofs.Math.Path.{ap}
use mathlib.Core.List.{List}
use Rattle.std.proofs.Math.ListN.{length}
use borrow.Author.Tests.{le-ltb}
use Rattle.object.specs.declared.family.Family.TheVariants.{Misauth}
use Rattle.message.specs.Reading.{length_of, headed}
use Rattle.message.specs.Writing.{head_bytes, encoded, message_of}
use Rattle.message.proofs.AlikeLaws.{Alike, alike_byte, alike_length}
use Rattle.message.proofs.CarriedLaws.{Form, form_short, form_ends}
use Rattle.message.proofs.RunLaws.{Run, in_runs}
use Rattle.message.proofs.WritingLaws.{message_length}
use Rattle.authenticator.specs.Authenticator.{sealed, is_authentic}
use Rattle.authenticator.proofs.AuthenticatorLaws.{sealed_length, sealed_head, sealed_body, authentic_written}

-- but for its Authenticator it is the message that was written
pub sealed_alike : (secret b : List ℕ) → Alike Misauth (sealed secret b) b
sealed_alike secret b = record { long = sealed_length secret b; head = sealed_head secret b; body = sealed_body secret b }

module _ (secret : List ℕ) {code second : ℕ} {rs : List Run} {b : List ℕ} (form : Form Misauth code second rs b) where
  -- the message, sealed
  abbrev y : List ℕ
  y = sealed secret b

  -- it has a whole header
  long : 20 ≤ length b
  long = let e : length b ≡ 20 + length (encoded (in_runs rs)) = ap length form.is ∙ message_length Misauth code second (encoded (in_runs rs)) in omega arith

  -- it is not too long
  short : length y ≤ 4096
  short = rw (sealed_length secret b) (form_short form)

  -- its Length counts its bytes
  its_length : length_of y ≡ length y
  its_length = alike_length (sealed_alike secret b) ∙ form_ends form ∙ sym (sealed_length secret b)

  -- its header passes, and it ends where its bytes end
  pub sealed_ends : headed Misauth y ≡ Ok (length y)
  unfolding headed
  sealed_ends =
      let l : 20 ≤ length y = rw (sealed_length secret b) long in
      rw (its_length, le-ltb (length y) 20 l, le-ltb 4096 (length y) short, le-ltb (length y) (length y) (omega arith))

  -- it is authentic
  pub sealed_authentic : is_authentic secret (take (length y) y) ≡ true
  sealed_authentic = rw (take_all (length y) y (omega arith)) (authentic_written secret b long)

  -- it has its Code
  pub sealed_code : slice_index y 0 ≡ code
  unfolding message_of head_bytes
  sealed_code = alike_byte (sealed_alike secret b) 0 (omega arith) ∙ ap (λ (l : List ℕ). slice_index l 0) form.is

  -- it has its Identifier
  pub sealed_second : slice_index y 1 ≡ second
  unfolding message_of head_bytes
  sealed_second = alike_byte (sealed_alike secret b) 1 (omega arith) ∙ ap (λ (l : List ℕ). slice_index l 1) form.is
