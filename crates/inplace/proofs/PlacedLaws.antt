-- A router's state of which one place is put anew.
use Prim.Native.Nat.{ℕ, ◌+◌, ◌*◌, ◌<◌, ◌≤◌, ◌^◌}
use mathlib.Core.Bool.{Bool, true, false}
use mathlib.Core.List.{List}
use mathlib.Core.Path.{◌≡◌, refl, sym, ap, subst, ◌∙◌}
use native.Mathlib.Omega.{arith}
use lib.Dec.{ltb}
use lib.ListN.{length, get_or, set, take, drop, length-drop, length-set}
use lib.Seq.{length-take-le, ext_get_or, get_or-set_same, get_or-set_other}
use borrow.Author.Tests.{ltb-true, ltb-false}
use Rattle.octets.specs.Numbers.{Bytes, number_of, bytes_of}
use Rattle.octets.specs.Put.{put_in}
use Rattle.octets.proofs.NumberLaws.{number_bytes}
use Rattle.octets.proofs.PutLaws.{put_in_length}
use Rattle.octets.proofs.PatchLaws.{put_in_part, part_before, part_past}
use Rattle.octets.proofs.SameLaws.{one_or_other}
use Rattle.places.specs.declared.place.Place.{Place}
use Rattle.places.specs.declared.state.Router.{Router}
use Rattle.places.specs.Place.{fresh_place}
use Rattle.storedrouter.specs.Place.{place_bytes, place_from}
use Rattle.storedrouter.specs.Settings.{settings_from}
use Rattle.storedrouter.specs.Router.{router_size, spot, router_from}
use Rattle.storedrouter.proofs.PlaceLaws.{PlaceHeld, place_length, place_undone}
use Rattle.turn.specs.Outcome.{with_place}
use Rattle.turn.proofs.TurnLaws.{with_past}
use Rattle.inplace.specs.Change.{Holds}
use Rattle.inplace.proofs.SpotLaws.{router_many, router_place}
use Rattle.inplace.proofs.CleanLaws.{settings_again, clock_again, place_again, Clean, part_clean}
use Rattle.inplace.proofs.HoldsLaws.{holds_same, holds_made}

-- a router, part by part
pub settings_of_law : (s s' : List ℕ) → take 371 (drop 0 s) ≡ take 371 (drop 0 s') → (router_from s).settings ≡ (router_from s').settings
unfolding router_from
settings_of_law s s' e = ap settings_from e

clock_of_law : (s s' : List ℕ) → take 8 (drop 371 s) ≡ take 8 (drop 371 s') → (router_from s).clock ≡ (router_from s').clock
unfolding router_from
clock_of_law s s' e = ap number_of e

pub clock_is : (s : List ℕ) (n : ℕ) → take 8 (drop 371 s) ≡ bytes_of 8 n → n < 2 ^ 64 → (router_from s).clock ≡ n
unfolding router_from
clock_is s n e h = ap number_of e ∙ number_bytes 8 n h

-- a router is what its parts are
pub router_is : (s : List ℕ) (r : Router) → (router_from s).settings ≡ r.settings → (router_from s).clock ≡ r.clock → length r.places ≡ 64
    → ((j : ℕ) → j < 64 → place_from (spot j s) ≡ get_or r.places j fresh_place) → router_from s ≡ r
router_is s r settings clock many each =
    let same = router_many s in
    let places = ext_get_or fresh_place (router_from s).places r.places (same ∙ sym many)
    (λ j k. (let few : j < 64 = omega arith in router_place s j fresh_place few ∙ each j few)) in
    λ j. record { settings = settings j; clock = clock j; places = places j }

-- a place has 89 bytes
pub spot_long : (s : List ℕ) (i : ℕ) → length s ≡ 6075 → i < 64 → length (spot i s) ≡ 89
spot_long s i size few = length-take-le 89 (drop (379 + i * 89) s) (simp length-drop (omega arith))

-- place i is put as v: it is v then, and the other places, the settings and the clock stay
module _ (s : List ℕ) (size : length s ≡ 6075) (i : ℕ) (few : i < 64) (v : List ℕ) (long : length v ≡ 89) where
  -- the buffer then
  abbrev after : List ℕ
  after = put_in s (379 + i * 89) v

  pub spot_here : spot i after ≡ v
  spot_here = ap (λ (n : ℕ). take n (drop (379 + i * 89) after)) (sym long) ∙ put_in_part s (379 + i * 89) v (omega arith)

  pub spot_other : (j : ℕ) → (j ≡ i → ⊥) → spot j after ≡ spot j s
  spot_other j h = go (ltb j i) refl
    where
      go : (b : Bool) → ltb j i ≡ b → spot j after ≡ spot j s
      go true e =
          let below = ltb-true j i e in
          part_before s (379 + i * 89) v 89 (379 + j * 89) (omega arith)
      go false e =
          let above = ltb-false j i e in
          part_past s (379 + i * 89) v 89 (379 + j * 89) (omega arith)

  pub settings_stay : take 371 (drop 0 after) ≡ take 371 (drop 0 s)
  settings_stay = part_before s (379 + i * 89) v 371 0 (omega arith)

  clock_stays : take 8 (drop 371 after) ≡ take 8 (drop 371 s)
  clock_stays = part_before s (379 + i * 89) v 8 371 (omega arith)

  -- the router then has the place that v says
  put_router : (p : Place) → place_from v ≡ p → router_from after ≡ with_place i p (router_from s)
  unfolding with_place
  put_router p e =
      let many = router_many s in
      let ps = (router_from s).places in
      router_is after (with_place i p (router_from s)) (settings_of_law after s settings_stay) (clock_of_law after s clock_stays) (length-set ps i p ∙ many)
      (one_or_other (λ (j : ℕ). j < 64 → place_from (spot j after) ≡ get_or (set ps i p) j fresh_place) i
      (λ k. ap place_from spot_here ∙ e ∙ sym (get_or-set_same ps i p fresh_place (omega arith)))
      (λ j h k. ap place_from (spot_other j h) ∙ sym (get_or-set_other ps i j p fresh_place h ∙ router_place s j fresh_place k)))

  -- every part is as stored, where it was and v is
  put_clean : v ≡ place_bytes (place_from v) → Clean s → Clean after
  put_clean e c =
      record {
        size = put_in_length s (379 + i * 89) v ∙ c.size;
        settings = part_clean settings_again settings_stay c.settings;
        clock = part_clean clock_again clock_stays c.clock;
        places = one_or_other (λ (j : ℕ). j < 64 → place_again (spot j after) ≡ spot j after) i
            (λ k. part_clean place_again spot_here (sym e))
            (λ j h k. part_clean place_again (spot_other j h) (c.places j k));
      }

-- past the last place nothing is put
pub put_nothing_holds : (s : List ℕ) (i : ℕ) (p : Place) → 64 ≤ i → Holds s s (with_place i p (router_from s))
put_nothing_holds s i p h = subst (λ (r : Router). Holds s s r) (with_past (router_from s) i (router_many s) h p) (holds_same s)

-- a place among the 64
pub put_place_holds : (s : List ℕ) → Bytes s → (size : length s ≡ router_size) (i : ℕ) → i < 64 → (p : Place) → PlaceHeld p → {after : List ℕ}
    → after ≡ put_in s (379 + i * 89) (place_bytes p) → Holds s after (with_place i p (router_from s))
put_place_holds s b size i few p h {after} e =
    let v = place_bytes p in
    let long = place_length p h in
    let from = place_undone p h in
    let r = with_place i p (router_from s) in
    subst (λ (x : List ℕ). Holds s x r) (sym e)
    (holds_made s b (put_in s (379 + i * 89) v) r size (put_in_length s (379 + i * 89) v) (put_router s size i few v long p from)
    (put_clean s size i few v long (ap place_bytes (sym from))))
