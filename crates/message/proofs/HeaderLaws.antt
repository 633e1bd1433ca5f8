-- A message that starts with a written header: its Code, its second byte, its Length, and what the tests make of it.
use Prim.Native.Nat.{ℕ, ◌+◌, ◌-◌, ◌^◌, ◌≤◌, ◌<◌}
use mathlib.Core.Path.{◌≡◌, refl, sym, ap}
use mathlib.Core.List.{List, ◌++◌}
use native.Mathlib.Omega.{arith}
use lib.ListN.{length, get_or, take, drop, length-append}
use lib.Seq.{drop_at}
use borrow.Author.Tests.{eq-eqb}
use Rattle.std.specs.Prelude.{Ok}
use Rattle.octets.specs.Numbers.{bytes_of}
use Rattle.octets.proofs.NumberLaws.{number_bytes}
use Rattle.object.specs.declared.family.Family.{Family}
use Rattle.object.specs.Family.{header_of, limit_of}
use Rattle.message.specs.Reading.{length_of, headed, body_of, vetted_body, vetted}
use Rattle.message.specs.Writing.{head_bytes}
use Rattle.message.proofs.ReadingLaws.{head_ends}
use Rattle.message.proofs.WritingLaws.{limit_most, head_length}

module _ (f : Family) (code second k : ℕ) (rest : List ℕ) where
  -- Code, the second byte, Length; what follows the header, and how much of it is the body
  pub header_code : get_or (head_bytes f code second k ++ rest) 0 0 ≡ code
  unfolding head_bytes
  header_code = refl

  pub header_second : get_or (head_bytes f code second k ++ rest) 1 0 ≡ second
  unfolding head_bytes
  header_second = refl

  pub header_says : k < 256 ^ 2 → length_of (head_bytes f code second k ++ rest) ≡ k
  unfolding head_bytes bytes_of
  header_says h = number_bytes 2 k h

  pub header_past : drop (header_of f) (head_bytes f code second k ++ rest) ≡ rest
  header_past = drop_at (head_bytes f code second k) rest (header_of f) (head_length f code second k)

  pub header_body : body_of f k (head_bytes f code second k ++ rest) ≡ take (k - header_of f) rest
  unfolding body_of
  header_body = ap (take (k - header_of f)) header_past

  -- Length is one that the family allows, and the bytes are there: the header passes its tests
  module _ (low : header_of f ≤ k) (high : k ≤ limit_of f) (there : k ≤ header_of f + length rest) where
    pub header_ends : headed f (head_bytes f code second k ++ rest) ≡ Ok k
    header_ends =
        let m : List ℕ = head_bytes f code second k ++ rest in
        let long : length m ≡ header_of f + length rest = simp (length-append, head_length) in
        let says : length_of m ≡ k = header_says (omega (arith, limit_most f)) in
        sym (head_ends f m refl (omega arith) (sym says) low refl high (omega arith))

    -- then the objects decide
    pub header_vetted : (mandatory : List ℕ)
        → vetted f code mandatory (head_bytes f code second k ++ rest) ≡ vetted_body f mandatory k (take (k - header_of f) rest)
    unfolding vetted
    header_vetted mandatory = rw (header_ends, header_code, eq-eqb code code refl, header_body)
