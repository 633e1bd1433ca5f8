-- A field is read where it stands, whatever stands around it.
use Prim.Native.Nat.{ℕ, ◌-◌, ◌^◌, ◌<◌}
use mathlib.Core.Bool.{Bool, true, false}
use mathlib.Core.List.{List, [], ◌++◌}
use mathlib.Core.Path.{◌≡◌, refl, sym, ap, ◌∙◌}
use lib.ListN.{length, get_or, take, drop, length-append}
use lib.Signed.{mag}
use Rattle.std.specs.Prelude.{ℤ}
use lib.Seq.{take_at, drop_at, get_or_at}
use Rattle.octets.specs.Numbers.{number_of, bytes_of, signed_of, unsigned_of}
use Rattle.octets.specs.Put.{fitted}
use Rattle.octets.proofs.NumberLaws.{bytes_length, number_bytes}
use Rattle.octets.proofs.FittedLaws.{fitted_is, fitted_take}
use Rattle.octets.proofs.SignedLaws.{signed_unsigned, unsigned_small}
use Rattle.held.specs.declared.Held.{Held}
use Rattle.laid.specs.Field.{flag_bytes, flag_of, number_at, array_at, held_stored, held_from}

-- a flag
pub around_flag : (b : Bool) (before after : List ℕ) → flag_of (get_or (before ++ (flag_bytes b ++ after)) (length before) 0) ≡ b
around_flag true before after = ap flag_of (get_or_at before 1 after 0 (length before) refl)
around_flag false before after = ap flag_of (get_or_at before 0 after 0 (length before) refl)

module _ (k : ℕ) (f before after : List ℕ) (e : length f ≡ k) where
  part : take k (drop (length before) (before ++ (f ++ after))) ≡ f
  part = ap (take k) (drop_at before (f ++ after) (length before) refl) ∙ take_at f after k e

  -- an array of k bytes
  pub around_array : array_at k (length before) (before ++ (f ++ after)) ≡ f
  unfolding array_at
  around_array = sym (fitted_take k (drop (length before) (before ++ (f ++ after)))) ∙ ap (fitted k) part ∙ fitted_is k f e

-- a number of k bytes
pub around_number : (k n : ℕ) (before after : List ℕ) → n < 256 ^ k → number_at k (length before) (before ++ (bytes_of k n ++ after)) ≡ n
around_number k n before after h = ap number_of (part k (bytes_of k n) before after (bytes_length k n)) ∙ number_bytes k n h

-- a signed number of k bytes, of b bits
pub around_signed : (k b : ℕ) (z : ℤ) (before after : List ℕ) → 2 ^ b ≡ 256 ^ k → 0 < b → mag z < 2 ^ (b - 1)
    → signed_of b (number_at k (length before) (before ++ (bytes_of k (unsigned_of b z) ++ after))) ≡ z
around_signed k b z before after e some h =
    ap (signed_of b) (around_number k (unsigned_of b z) before after (rw (← e) (unsigned_small b z some h))) ∙ signed_unsigned b z some h

-- what the code's type holds of a held byte string
pub record StringHeld (h : Held) : Type 0 where
  pub bytes : length h.bytes ≡ 253
  pub size : h.size < 2 ^ 64

module _ (h : Held) (k : StringHeld h) where
  -- how many bytes it has as it is stored
  pub held_length : length (held_stored h) ≡ 261
  unfolding held_stored
  held_length = simp (length-append, bytes_length, k.bytes)

  -- and it is loaded again
  pub held_undone : held_from (held_stored h) ≡ h
  unfolding held_from held_stored
  held_undone =
      let bytes = around_array 253 h.bytes [] (bytes_of 8 h.size ++ []) k.bytes in
      let size = ap (λ (at : ℕ). number_at 8 at (h.bytes ++ (bytes_of 8 h.size ++ []))) (sym k.bytes) ∙ around_number 8 h.size h.bytes [] k.size in
      λ j. record { bytes = bytes j; size = size j }

  -- wherever it stands
  pub around_held : (before after : List ℕ) → held_from (take 261 (drop (length before) (before ++ (held_stored h ++ after)))) ≡ h
  around_held before after = ap held_from (part 261 (held_stored h) before after held_length) ∙ held_undone
