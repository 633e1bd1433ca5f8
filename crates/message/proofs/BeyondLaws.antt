-- Bytes after a message's Length are not read: other bytes in their place change no reader's answer.
use Prim.Native.Nat.{ℕ, ◌+◌, ◌-◌, ◌≤◌, ◌<◌}
use mathlib.Core.Path.{◌≡◌, refl, sym, ap, ◌∙◌}
use mathlib.Core.List.{List, ◌++◌}
use native.Mathlib.Omega.{arith}
use lib.ListN.{length, get_or, take, drop, length-append, get_or-append}
use lib.Dec.{ltb, eqb}
use lib.Seq.{take_at, length-take-le, get_or-take}
use borrow.Author.Tests.{le-ltb}
use Rattle.std.specs.Prelude.{Result, Ok, Err}
use Rattle.octets.specs.Choice.{pick}
use Rattle.octets.specs.Numbers.{number_of}
use Rattle.octets.proofs.ListLaws.{part_first, part_within}
use Rattle.refusal.specs.declared.Refusal.{Refusal}
use Rattle.refusal.specs.declared.Refusal.TheVariants.{BadLength, OtherCode}
use Rattle.object.specs.declared.family.Family.{Family}
use Rattle.object.specs.Family.{header_of, limit_of}
use Rattle.message.specs.Reading.{length_of, headed, body_of, vetted_body, vetted, by_vetted, by_result}
use Rattle.message.proofs.CasesLaws.{head_cases}
use Rattle.message.proofs.WritingLaws.{header_least}
use Rattle.message.proofs.EndsLaws.{read_alike}

-- the message m as far as its Length says, and then other bytes
abbrev pub followed_by : List ℕ → List ℕ → List ℕ
followed_by m more = take (length_of m) m ++ more

-- the bytes of a message are there as far as its Length says, its header among them
pub record Whole (f : Family) (m : List ℕ) : Type 0 where
  pub header : header_of f ≤ length_of m
  pub there : length_of m ≤ length m

module _ {f : Family} {m : List ℕ} (w : Whole f m) where
  -- its header is refused as too long for the family, or passes
  whole_head : headed f m ≡ pick (ltb (limit_of f) (length_of m)) (Err BadLength) (Ok (length_of m))
  unfolding headed
  whole_head =
      rw (
        le-ltb (length m) (header_of f) (omega (arith, w.header, w.there)),
        le-ltb (length_of m) (header_of f) w.header,
        le-ltb (length m) (length_of m) w.there,
      )

-- other bytes after the message's Length
module _ {f : Family} {m : List ℕ} (w : Whole f m) (more : List ℕ) where
  kept_long : length (take (length_of m) m) ≡ length_of m
  kept_long = length-take-le (length_of m) m w.there

  kept_part : (a k : ℕ) → a + k ≤ length_of m → take k (drop a (followed_by m more)) ≡ take k (drop a m)
  kept_part a k h = part_first a k (take (length_of m) m) more (rw kept_long h) ∙ part_within (length_of m) a k m h

  pub kept_byte : (i : ℕ) → i < header_of f → get_or (followed_by m more) i 0 ≡ get_or m i 0
  kept_byte i h =
      let less : i < length_of m = omega (arith, w.header) in
      get_or-append (take (length_of m) m) more 0 i (rw kept_long less) ∙ get_or-take (length_of m) m i 0 less

  pub kept_length : length_of (followed_by m more) ≡ length_of m
  kept_length = ap number_of (kept_part 2 2 (omega (arith, w.header, header_least f)))

  pub kept_body : body_of f (length_of m) (followed_by m more) ≡ body_of f (length_of m) m
  unfolding body_of
  kept_body = kept_part (header_of f) (length_of m - header_of f) (omega (arith, w.header))

  kept_whole : Whole f (followed_by m more)
  kept_whole = record { header = rw kept_length w.header; there = rw kept_length (simp (length-append, kept_long) (omega arith)) }

  pub kept_head : headed f (followed_by m more) ≡ headed f m
  kept_head = whole_head kept_whole ∙ rw kept_length (sym (whole_head w))

  -- the message as far as its Length says
  pub kept_take : take (length_of m) (followed_by m more) ≡ take (length_of m) m
  kept_take = take_at (take (length_of m) m) more (length_of m) kept_long

  kept_vetted : (code : ℕ) (mandatory : List ℕ) → vetted f code mandatory (followed_by m more) ≡ vetted f code mandatory m
  unfolding vetted
  kept_vetted code mandatory =
      rw (kept_head, kept_byte 0 (omega (arith, header_least f)))
      (head_cases
      (λ (h : Result ℕ Refusal). by_result h Err (λ end. pick (eqb (get_or m 0 0) code) (vetted_body f mandatory end (body_of f end (followed_by m more))) (Err OtherCode))
      ≡ by_result h Err (λ end. pick (eqb (get_or m 0 0) code) (vetted_body f mandatory end (body_of f end m)) (Err OtherCode)))
      f m (λ _ _. refl) (rw kept_body))

  -- a reader whose fields come from the objects and the second byte hands back the same
  pub kept_read : {A : Type 0} (code : ℕ) (mandatory : List ℕ) (refuse : Refusal → A) (fields : List ℕ → ℕ → A)
      → (body_of f (length_of m) (followed_by m more) ≡ body_of f (length_of m) m → get_or (followed_by m more) 1 0 ≡ get_or m 1 0
      → fields (followed_by m more) (length_of m) ≡ fields m (length_of m))
      → by_vetted (vetted f code mandatory (followed_by m more)) refuse (fields (followed_by m more))
      ≡ by_vetted (vetted f code mandatory m) refuse (fields m)
  kept_read code mandatory refuse fields same =
      let e = same kept_body (kept_byte 1 (omega (arith, header_least f))) in
      rw (kept_vetted code mandatory) (read_alike f code mandatory m refuse (fields (followed_by m more)) (fields m) e)
