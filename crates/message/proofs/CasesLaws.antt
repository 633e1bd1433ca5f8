-- What the tests of a reader can say: what holds of every refusal of theirs, and where they pass, holds of what they say.
use Prim.Native.Nat.{ℕ, ◌≤◌}
use mathlib.Core.Path.{◌≡◌}
use mathlib.Core.Bool.{true}
use mathlib.Core.List.{List}
use native.Mathlib.Omega.{arith}
use lib.ListN.{length, get_or}
use lib.Dec.{ltb, eqb, lit≤}
use borrow.Author.Tests.{eqb-true}
use Rattle.std.specs.Prelude.{Result, Ok, Err}
use Rattle.message.specs.declared.reading.Sound.{Sound}
use Rattle.octets.specs.Choice.{pick, flip}
use Rattle.octets.proofs.ChoiceLaws.{pick_all, flip_false}
use Rattle.refusal.specs.declared.Refusal.{Refusal}
use Rattle.refusal.specs.declared.Refusal.TheVariants.{ShortHeader, BadLength, OtherCode, BrokenObject, MissingObject, BadValue}
use Rattle.refusal.specs.Table.{refusal_number}
use Rattle.object.specs.declared.family.Family.{Family}
use Rattle.object.specs.Family.{header_of, limit_of}
use Rattle.object.specs.Walk.{is_whole, walk_of}
use Rattle.message.specs.Reading.{length_of, headed, body_of, has_all, all_fit, vetted_body, vetted, sound, by_result}

-- a header is refused with 1 or 2, or ends the message where its Length says
pub head_cases : (P : Result ℕ Refusal → Type 0) (f : Family) (m : List ℕ) → ((why : Refusal) → refusal_number why ≤ 2 → P (Err why))
    → P (Ok (length_of m)) → P (headed f m)
unfolding headed
head_cases P f m out ends =
    pick_all P (ltb (length m) (header_of f)) _ _ (λ _. out ShortHeader (lit≤ tt)) λ _.
    pick_all P (ltb (length_of m) (header_of f)) _ _ (λ _. out BadLength (lit≤ tt)) λ _.
    pick_all P (ltb (limit_of f) (length_of m)) _ _ (λ _. out BadLength (lit≤ tt)) λ _.
    pick_all P (ltb (length m) (length_of m)) _ _ (λ _. out BadLength (lit≤ tt)) λ _. ends

-- the tests of a message, one after the other
module _ (P : Result Sound Refusal → Type 0) (f : Family) (code : ℕ) (mandatory m : List ℕ)
    (out : (why : Refusal) → refusal_number why ≤ 6 → P (Err why)) where
  -- 4, 5, 6
  body_cases : (end : ℕ) (body : List ℕ) → (has_all f mandatory body ≡ true → all_fit f mandatory body ≡ true → P (sound end))
      → P (vetted_body f mandatory end body)
  unfolding vetted_body
  body_cases end body pass =
      pick_all P (flip (is_whole (walk_of f body).ends)) _ _ (λ _. out BrokenObject (lit≤ tt)) λ _.
      pick_all P (flip (has_all f mandatory body)) _ _ (λ _. out MissingObject (lit≤ tt)) λ h.
      pick_all P (flip (all_fit f mandatory body)) _ _ (λ _. out BadValue (lit≤ tt)) λ a.
      pass (flip_false (has_all f mandatory body) h) (flip_false (all_fit f mandatory body) a)

  -- a message is refused with 1 to 6; or it has the Code of its kind, passes the tests of 5 and 6, and ends where its Length says
  pub vetted_cases : (get_or m 0 0 ≡ code → has_all f mandatory (body_of f (length_of m) m) ≡ true
      → all_fit f mandatory (body_of f (length_of m) m) ≡ true → P (sound (length_of m))) → P (vetted f code mandatory m)
  unfolding vetted
  vetted_cases pass =
      head_cases
      (λ (h : Result ℕ Refusal). P (by_result h Err λ end. pick (eqb (get_or m 0 0) code) (vetted_body f mandatory end (body_of f end m)) (Err OtherCode)))
      f m (λ why h. out why (omega arith))
      (pick_all P (eqb (get_or m 0 0) code) _ _ (λ e. body_cases (length_of m) (body_of f (length_of m) m) (pass (eqb-true (get_or m 0 0) code e)))
      λ _. out OtherCode (lit≤ tt))
