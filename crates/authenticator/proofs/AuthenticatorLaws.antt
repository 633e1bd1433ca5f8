-- What callers use: a message with its Authenticator in its place passes the test, and is otherwise as it was.
use Prim.Native.Nat.{ℕ, ◌≤◌}
use native.Mathlib.Omega.{arith}
use mathlib.Core.Path.{◌≡◌, sym, ap, ap₂, ◌∙◌}
use mathlib.Core.Bool.{true}
use mathlib.Core.List.{List, ◌++◌}
use lib.ListN.{length, take, drop, replicate}
use lib.Seq.{take_at, drop_at}
use Rattle.octets.specs.Put.{put_in, zeroed}
use Rattle.octets.proofs.PutLaws.{put_in_length}
use Rattle.octets.proofs.PatchLaws.{put_in_again, put_in_take, put_in_drop, put_in_part}
use Rattle.octets.proofs.SameLaws.{true_same}
use Rattle.hmac.specs.Hmac.{hmac_of}
use Rattle.hmac.proofs.HmacLaws.{hmac_length}
use Rattle.authenticator.specs.Authenticator.{authenticator_of, sealed, is_authentic}

module _ (secret m : List ℕ) where
  -- 16 bytes
  pub authenticator_length : length (authenticator_of secret m) ≡ 16
  unfolding authenticator_of
  authenticator_length = hmac_length secret (zeroed 4 m)

  -- the message keeps its length
  pub sealed_length : length (sealed secret m) ≡ length m
  unfolding sealed
  sealed_length = put_in_length m 4 (authenticator_of secret m)

  -- Code, Identifier and Length stay, and so do the objects
  pub sealed_head : take 4 (sealed secret m) ≡ take 4 m
  unfolding sealed
  sealed_head = put_in_take m 4 (authenticator_of secret m) 4 (omega arith)

  pub sealed_body : drop 20 (sealed secret m) ≡ drop 20 m
  unfolding sealed
  sealed_body = rw authenticator_length at (put_in_drop m 4 (authenticator_of secret m))

  -- the field holds the Authenticator
  pub sealed_field : 20 ≤ length m → take 16 (drop 4 (sealed secret m)) ≡ authenticator_of secret m
  unfolding sealed
  sealed_field h = rw authenticator_length at (put_in_part m 4 (authenticator_of secret m) (rw authenticator_length h))

  -- made in place: the field zeroed, and then the code of what holds the zeros put there
  pub sealed_is : (z code r : List ℕ) → z ≡ zeroed 4 m → code ≡ hmac_of secret z → r ≡ put_in z 4 code → r ≡ sealed secret m
  unfolding authenticator_of zeroed sealed
  sealed_is z code r ez ec er =
      er
      ∙ ap₂ (λ (l vs : List ℕ). put_in l 4 vs) ez (ec ∙ ap (hmac_of secret) ez)
      ∙ put_in_again m 4 (replicate 16 0) (authenticator_of secret m) (sym authenticator_length)

  -- made in a buffer that starts with the message: what stands past it stays
  pub sealed_front : (rest : List ℕ) {buffer after : List ℕ} {n : ℕ} → buffer ≡ m ++ rest → n ≡ length m → after ≡ sealed secret (take n buffer) ++ drop n buffer
      → after ≡ sealed secret m ++ rest
  sealed_front rest {buffer} {after} {n} starts size e =
      let first : take n buffer ≡ m = ap (take n) starts ∙ take_at m rest n (sym size) in
      let last : drop n buffer ≡ rest = ap (drop n) starts ∙ drop_at m rest n (sym size) in
      e ∙ ap₂ (λ (x y : List ℕ). sealed secret x ++ y) first last

  -- what stands in the field does not count
  pub sealed_same : authenticator_of secret (sealed secret m) ≡ authenticator_of secret m
  unfolding authenticator_of zeroed sealed
  sealed_same = ap (hmac_of secret) (put_in_again m 4 (authenticator_of secret m) (replicate 16 0) authenticator_length)

  -- what is made passes the test
  pub authentic_written : 20 ≤ length m → is_authentic secret (sealed secret m) ≡ true
  unfolding is_authentic
  authentic_written h = true_same (take 16 (drop 4 (sealed secret m))) (authenticator_of secret (sealed secret m)) (sealed_field h ∙ sym sealed_same)
