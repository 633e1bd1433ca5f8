-- One text put after another.
use Prim.Native.Nat.{ℕ, ◌+◌, ◌^◌, ◌≤◌, ◌<◌}
use mathlib.Core.Path.{◌≡◌, refl, sym, ◌∙◌}
use mathlib.Core.List.{List, [], ◌∷◌, ◌++◌}
use native.Mathlib.Omega.{arith}
use Rattle.std.proofs.Common.{Some}
use lib.Dec.{leb}
use lib.ListN.{length, length-append, take}
use borrow.Author.Tests.{le-leb, leb-true}
use Rattle.octets.proofs.ChoiceLaws.{pick_all}
use Rattle.octets.proofs.PutLaws.{put_put, put_none, put_in_fits}
use Rattle.script.specs.Print.{Printed}
use Rattle.script.proofs.PrintLaws.{printed_length}
use Rattle.script.specs.Decimal.{decimal_text}
use Rattle.refusal.specs.Table.{answer_number}
use Rattle.told.specs.declared.printing.Said.{Said}
use Rattle.script.specs.Words.{space}
use Rattle.told.specs.Print.{Puts, line_end, next_bytes, receiver, answer_text}

module _ {bytes text : List ℕ} {at : ℕ} {held : List ℕ} {r : ℕ} (p : Printed bytes text at held r) where
  -- the place past it is a place of the text, or the same
  pub past_fits : at < 2 ^ 64 → length text < 2 ^ 64 → at + r < 2 ^ 64
  past_fits h k =
      rw p.count
      (pick_all (λ (n : ℕ). at + n < 2 ^ 64) (leb (at + length bytes) (length text)) (length bytes) 0
      (λ e. let l = leb-true (at + length bytes) (length text) e in omega arith) (λ e. omega arith))

  -- what was printed is put
  pub puts_printed : Puts bytes text at held (at + r)
  puts_printed =
      record {
        long = printed_length p;
        is = λ h. p.bytes ∙ put_in_fits text at bytes h;
        past = λ h. rw (p.count, le-leb (at + length bytes) (length text) h);
      }

module _ {a b text : List ℕ} {at : ℕ} {first : List ℕ} {r : ℕ} {second : List ℕ} {next : ℕ} (p : Puts a text at first r) (q : Puts b first r second next) where
  -- where both have room
  module _ (h : at + length (a ++ b) ≤ length text) where
    sum : at + length a + length b ≤ length text
    sum = omega (arith, length-append a b)

    low : at + length a ≤ length text
    low = omega (arith, sum)

    room : r + length b ≤ length first
    room = omega (arith, sum, p.past low, p.long)

  -- both, one after the other
  pub puts_both : Puts (a ++ b) text at second next
  puts_both =
      record {
        long = q.long ∙ p.long;
        is = λ h. q.is (room h) ∙ rw (p.is (low h), p.past (low h)) (put_put text at a b (sum h));
        past = λ h. omega (arith, q.past (room h), p.past (low h), length-append a b);
      }

-- nothing is put
pub puts_none : {text : List ℕ} {at : ℕ} → Puts [] text at text at
puts_none {text} {at} = record { long = refl; is = λ h. sym (put_none text at); past = λ h. omega arith }

-- what is said of a call
module _ (s : Said) (out : List ℕ) {text : List ℕ} {at : ℕ} where
  pub puts_answer : {n : ℕ} {bytes h₁ h₂ h₃ h₄ : List ℕ} {r₁ r₂ r₃ r₄ : ℕ} → n ≡ answer_number s.answer
      → bytes ≡ take s.written out
      → Puts (decimal_text n) text at h₁ r₁ → Puts (next_bytes bytes) h₁ r₁ h₂ r₂ → Puts (space ∷ receiver s.to) h₂ r₂ h₃ r₃
      → Puts line_end h₃ r₃ h₄ r₄ → Puts (answer_text (Some s) out) text at h₄ r₄
  unfolding answer_text
  puts_answer en eb p₁ p₂ p₃ p₄ = rw (← en, ← eb) (puts_both (puts_both (puts_both p₁ p₂) p₃) p₄)
