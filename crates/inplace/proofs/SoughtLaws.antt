-- The first seven bytes of a place as one number: it is the number that is sought exactly where the place is for the address.
use Prim.Native.Nat.{ℕ, suc, ◌+◌, ◌*◌, ◌/◌, ◌<◌, ◌≤◌}
use mathlib.Core.Bool.{Bool}
use mathlib.Core.List.{List, ◌∷◌}
use mathlib.Core.Path.{◌≡◌, sym, ap, ap₂, ◌∙◌}
use native.Mathlib.Numerals.{add-one}
use native.Mathlib.Omega.{arith}
use lib.Arith.{digits_div}
use lib.Dec.{eqb, lit<, lit≤}
use lib.ListN.{length, take, drop, length-take, length-drop}
use lib.Seq.{drop-cons, drop-drop, get_or-drop, length-take-le}
use Rattle.octets.specs.Choice.{both}
use Rattle.octets.specs.Numbers.{Bytes}
use Rattle.octets.specs.Same.{same_bytes}
use Rattle.octets.proofs.BytesLaws.{bytes_cons, part_bytes}
use Rattle.octets.proofs.FittedLaws.{fitted_long}
use Rattle.octets.proofs.ListLaws.{part_within}
use Rattle.octets.proofs.NumberLaws.{number_next, number_same}
use Rattle.places.specs.State.{is_for}
use Rattle.laid.specs.Field.{number_at, array_at}
use Rattle.storedrouter.specs.Place.{place_from}
use Rattle.storedrouter.specs.Router.{spot}
use Rattle.inplace.specs.Sought.{Sought}
use Rattle.inplace.proofs.SpotLaws.{spot_taken}

module _ (s : List ℕ) (b : Bytes s) (i : ℕ) (h : 379 + i * 89 + 8 ≤ length s) where
  -- where place i stands
  abbrev at : ℕ
  at = 379 + i * 89

  -- the eighth byte is left out
  seven_of : number_at 8 at s / 256 ≡ number_at 7 at s
  seven_of =
      let long : 7 < length (drop at s) = simp length-drop (omega arith) in
      ap (λ (n : ℕ). n / 256) (number_next (drop at s) 7 long)
      ∙ digits_div (number_at 7 at s) (rw get_or-drop (b.small (at + 7)))

  -- the address: the six bytes past the flag
  address_is : (place_from (spot i s)).address ≡ take 6 (drop (suc at) s)
  unfolding place_from array_at
  address_is =
      let long : 6 ≤ length (drop 1 (spot i s)) = simp (length-drop, length-take) (omega arith) in
      fitted_long 6 (drop 1 (spot i s)) long
      ∙ part_within 89 1 6 (drop at s) (lit≤ tt)
      ∙ ap (take 6) (drop-drop 1 at s ∙ ap (λ (k : ℕ). drop k s) (add-one at))

  -- the flag and the address: the first seven bytes
  seven_are : (address : List ℕ) → same_bytes (take 7 (drop at s)) (1 ∷ address) ≡ is_for address (place_from (spot i s))
  unfolding same_bytes
  seven_are address =
      ap (λ (x : List ℕ). same_bytes (take 7 x) (1 ∷ address)) (drop-cons s at 0 (omega arith))
      ∙ ap₂ (λ (t : Bool) (x : List ℕ). both t (same_bytes x address)) (sym (spot_taken s i)) (sym address_is)

  -- the first seven bytes are the number that is sought exactly where the place is for the address
  pub sought_found : {address : List ℕ} {n m : ℕ} → Sought address m → n ≡ number_at 8 at s → eqb (n / 256) m ≡ is_for address (place_from (spot i s))
  sought_found {address} {n} {m} w e =
      let long : length (take 7 (drop at s)) ≡ 7 = length-take-le 7 (drop at s) (simp length-drop (omega arith)) in
      ap₂ eqb (ap (λ (k : ℕ). k / 256) e ∙ seven_of) w.is
      ∙ number_same 7 (take 7 (drop at s)) (1 ∷ address) long (ap suc w.long) (part_bytes 7 at s b) (bytes_cons (lit< tt) w.bytes)
      ∙ seven_are address
