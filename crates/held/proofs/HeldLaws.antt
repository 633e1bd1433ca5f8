-- A held byte string: what counts of it, and how long that is.
use Prim.Native.Nat.{ℕ, ◌≤◌}
use mathlib.Core.Path.{◌≡◌, ap, ◌∙◌}
use mathlib.Core.List.{List}
use lib.ListN.{length, take, drop}
use lib.Seq.{take_all, length-take-le}
use Rattle.octets.proofs.FittedLaws.{fitted_start}
use Rattle.octets.proofs.ListLaws.{take_count}
use Rattle.held.specs.Held.{held_of, held_bytes}
use Rattle.held.specs.declared.Held.{Held}

-- a byte string of at most 253 bytes is held whole
pub held_bytes_law : (value : List ℕ) → length value ≤ 253 → held_bytes (held_of value) ≡ value
unfolding held_of held_bytes
held_bytes_law value h = fitted_start 253 value h

-- where the array is no longer than the size, it counts whole
pub held_short : (h : Held) → length h.bytes ≤ h.size → length (held_bytes h) ≡ length h.bytes
unfolding held_bytes
held_short h p = ap length (take_all h.size h.bytes p)

-- else as many bytes of it as the size
pub held_size : (h : Held) → h.size ≤ length h.bytes → length (held_bytes h) ≡ h.size
unfolding held_bytes
held_size h p = length-take-le h.size h.bytes p

-- the bytes that count, as the code takes them
pub held_part : (h : Held) {size : ℕ} {part : List ℕ} → size ≡ length (held_bytes h) → part ≡ take size (drop 0 h.bytes) → part ≡ held_bytes h
unfolding held_bytes
held_part h e p = p ∙ ap (λ (n : ℕ). take n h.bytes) e ∙ take_count h.size h.bytes
