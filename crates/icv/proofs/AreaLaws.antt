-- The working area: the message with its check value zero, and both addresses after it.
use Prim.Native.Nat.{ℕ, ◌+◌, ◌≤◌}
use native.Mathlib.Omega.{arith}
use mathlib.Core.Path.{◌≡◌, ◌∙◌}
use mathlib.Core.List.{List, ◌++◌, append_assoc}
use lib.ListN.{length, take, drop, replicate, length-append}
use Rattle.octets.specs.Put.{put_in, zeroed}
use Rattle.octets.proofs.PutLaws.{put_in_length, Written, written_at, written_take, written_changed}

module _ (area message sender receiver : List ℕ) (at : ℕ) (room : length message + 12 ≤ length area)
    (six : length sender ≡ 6) (six' : length receiver ≡ 6) where
  -- what the area holds after the message, after the zeros and after each address
  pub area_is : (a b c d : List ℕ) → a ≡ put_in area 0 message
      → b ≡ put_in (take (length message) a) at (replicate 16 0) ++ drop (length message) a
      → c ≡ put_in b (length message) sender → d ≡ put_in c (length message + 6) receiver
      → take (length message + 12) d ≡ zeroed at message ++ (sender ++ receiver)
  unfolding zeroed
  area_is a b c d ea eb ec ed =
      let n = length message in
      let z : List ℕ = put_in message at (replicate 16 0) in
      let long : length z ≡ n = put_in_length message at (replicate 16 0) in
      let w : Written area z b = written_changed (λ (l : List ℕ). put_in l at (replicate 16 0)) area message (omega arith) long ea eb in
      let w' : Written area (z ++ sender) c = written_at w sender n long (omega arith) ec in
      let long' : length (z ++ sender) ≡ n + 6 = simp length-append (omega arith) in
      let w'' : Written area ((z ++ sender) ++ receiver) d = written_at w' receiver (n + 6) long' (omega arith) ed in
      let whole : length ((z ++ sender) ++ receiver) ≡ n + 12 = simp length-append (omega arith) in
      (rw whole at (written_take w'')) ∙ append_assoc z sender receiver
