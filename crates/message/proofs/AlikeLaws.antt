-- Two messages that differ in their headers past byte 3 alone, where an Authenticator stands: every reader meets the same in both.
use Prim.Native.Nat.{ℕ, ◌-◌, ◌<◌}
use mathlib.Core.Path.{◌≡◌, sym, ap, ◌∙◌}
use mathlib.Core.List.{List}
use native.Mathlib.Omega.{arith}
use lib.ListN.{length, get_or, take, drop}
use lib.Seq.{get_or-take}
use Rattle.octets.specs.Numbers.{number_of}
use Rattle.octets.proofs.ListLaws.{part_front}
use Rattle.refusal.specs.declared.Refusal.{Refusal}
use Rattle.object.specs.declared.family.Family.{Family}
use Rattle.object.specs.Family.{header_of}
use Rattle.message.specs.Reading.{length_of, headed, body_of, vetted, by_vetted}
use Rattle.message.specs.Field.{object_in, value_in, optional_in}
use Rattle.message.proofs.EndsLaws.{read_alike}

-- of one length, with the same bytes 0 to 3, and the same bytes past the header
pub record Alike (f : Family) (m m' : List ℕ) : Type 0 where
  pub long : length m ≡ length m'
  pub head : take 4 m ≡ take 4 m'
  pub body : drop (header_of f) m ≡ drop (header_of f) m'

module _ {f : Family} {m m' : List ℕ} (a : Alike f m m') where
  -- a byte of both, their Length, their header and their body; what the tests say; the object of a type that counts, its value and its number
  pub alike_byte : (i : ℕ) → i < 4 → get_or m i 0 ≡ get_or m' i 0
  alike_byte i h = sym (get_or-take 4 m i 0 h) ∙ ap (λ (l : List ℕ). get_or l i 0) a.head ∙ get_or-take 4 m' i 0 h

  pub alike_length : length_of m ≡ length_of m'
  alike_length = ap number_of (sym (part_front 2 2 m) ∙ ap (drop 2) a.head ∙ part_front 2 2 m')

  alike_headed : headed f m ≡ headed f m'
  unfolding headed
  alike_headed = rw (a.long, alike_length)

  pub alike_body : (end : ℕ) → body_of f end m ≡ body_of f end m'
  unfolding body_of
  alike_body end = ap (take (end - header_of f)) a.body

  pub alike_vetted : (code : ℕ) (mandatory : List ℕ) → vetted f code mandatory m ≡ vetted f code mandatory m'
  unfolding vetted
  alike_vetted code mandatory = rw (alike_headed, alike_byte 0 (omega arith)) (simp alike_body)

  pub alike_object : (t end : ℕ) → object_in f t end m ≡ object_in f t end m'
  unfolding object_in
  alike_object t end = rw (alike_body end)

  pub alike_value : (t end : ℕ) → value_in f t end m ≡ value_in f t end m'
  unfolding value_in
  alike_value t end = rw (alike_object t end)

  pub alike_optional : (t end : ℕ) → optional_in f t end m ≡ optional_in f t end m'
  unfolding optional_in
  alike_optional t end = rw (alike_object t end)

  -- a reader whose fields are the same in both hands back the same
  pub alike_read : {A : Type 0} (code : ℕ) (mandatory : List ℕ) (refuse : Refusal → A) (fields : List ℕ → ℕ → A)
      → ((end : ℕ) → fields m end ≡ fields m' end)
      → by_vetted (vetted f code mandatory m) refuse (fields m) ≡ by_vetted (vetted f code mandatory m') refuse (fields m')
  alike_read code mandatory refuse fields e =
      rw (alike_vetted code mandatory) (read_alike f code mandatory m' refuse (fields m) (fields m') (e (length_of m')))
