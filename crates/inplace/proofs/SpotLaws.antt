-- The places of a router, each read at its spot.
use Prim.Native.Nat.{ℕ, ◌+◌, ◌*◌, ◌<◌}
use mathlib.Core.Bool.{Bool, true}
use mathlib.Core.List.{List}
use mathlib.Core.Path.{◌≡◌, refl, sym, ap, ◌∙◌}
use native.Mathlib.Omega.{arith}
use lib.Dec.{lit≤, eqb}
use lib.ListN.{length, get_or, take, drop}
use lib.Pointwise.{pointwise}
use lib.Seq.{drop-drop}
use Rattle.octets.proofs.SameLaws.{same_pointwise}
use Rattle.octets.specs.Choice.{both}
use Rattle.octets.specs.Same.{same_bytes}
use Rattle.octets.proofs.ListLaws.{part_byte, part_within}
use Rattle.places.specs.declared.place.Place.{Place}
use Rattle.places.specs.State.{is_for}
use Rattle.places.proofs.FindLaws.{equal_same}
use Rattle.laid.specs.Field.{flag_of, array_at}
use Rattle.laid.proofs.FieldLaws.{array_part, array_long, array_byte}
use Rattle.storedrouter.specs.Place.{place_from}
use Rattle.storedrouter.specs.Router.{spot, router_from}
use Rattle.storedrouter.proofs.RouterLaws.{places_many, place_among}

module _ (s : List ℕ) where
  -- a router has 64 places
  pub router_many : length (router_from s).places ≡ 64
  unfolding router_from
  router_many = places_many 64 s

  module _ (i : ℕ) where
    -- place i of a router
    pub router_place : (d : Place) → i < 64 → get_or (router_from s).places i d ≡ place_from (spot i s)
    unfolding router_from
    router_place d h = place_among 64 i s d h

    -- its flag
    pub spot_taken : (place_from (spot i s)).taken ≡ flag_of (get_or s (379 + i * 89) 0)
    unfolding place_from
    spot_taken =
        let same : 379 + i * 89 + 0 ≡ 379 + i * 89 = omega arith in
        ap flag_of (part_byte 89 (379 + i * 89) 0 s (omega arith) ∙ ap (λ (k : ℕ). get_or s k 0) same)

-- the address of place i, byte by byte
module _ (s : List ℕ) (i : ℕ) where
  pub address_long : length (place_from (spot i s)).address ≡ 6
  unfolding place_from
  address_long = array_long 6 1 (spot i s)

  pub address_byte : (j : ℕ) → j < 6 → get_or (place_from (spot i s)).address j 0 ≡ get_or s (379 + i * 89 + 1 + j) 0
  unfolding place_from
  address_byte j h =
      let same : 379 + i * 89 + (1 + j) ≡ 379 + i * 89 + 1 + j = omega arith in
      array_byte 6 1 j (spot i s) h ∙ part_byte 89 (379 + i * 89) (1 + j) s (omega arith) ∙ ap (λ (k : ℕ). get_or s k 0) same

-- its address, behind the flag
pub spot_address : (s : List ℕ) (i : ℕ) → array_at 6 (379 + i * 89 + 1) s ≡ (place_from (spot i s)).address
unfolding place_from
spot_address s i =
    let at = 379 + i * 89 in
    sym (array_part 6 (at + 1) s
    (part_within 89 1 6 (drop at s) (lit≤ tt) ∙ ap (take 6) (drop-drop 1 at s))
    (sym (array_part 6 1 (spot i s) refl refl)))

-- whether a taken place is for an address, as the code compares
pub same_behind : (s : List ℕ) (i : ℕ) (address found : List ℕ) {r : Bool} → flag_of (get_or s (379 + i * 89) 0) ≡ true
    → found ≡ array_at 6 (379 + i * 89 + 1) s → r ≡ pointwise eqb found address → r ≡ is_for address (place_from (spot i s))
same_behind s i address found t f e =
    e ∙ same_pointwise found address ∙ ap (λ (x : List ℕ). same_bytes x address) (f ∙ spot_address s i)
    ∙ ap (λ (b : Bool). both b (same_bytes (place_from (spot i s)).address address)) (sym (spot_taken s i ∙ t))
