-- A router's state as it is stored: every part of it is the bytes of what it is read as.
use Prim.Native.Nat.{ℕ, zero, suc, ◌+◌, ◌*◌, ◌<◌}
use mathlib.Core.List.{List, [], ◌∷◌, ◌++◌, map, map-append, append-nil}
use mathlib.Core.Path.{◌≡◌, refl, sym, ap, ap₂, ◌∙◌}
use native.Mathlib.Omega.{arith}
use lib.ListN.{length, take, drop, length-drop, take-append-drop}
use lib.Seq.{take_all, take-add, drop-drop}
use Rattle.octets.specs.Numbers.{Bytes, number_of, bytes_of}
use Rattle.octets.proofs.ListLaws.{part_join}
use Rattle.octets.proofs.NumberLaws.{bytes_length}
use Rattle.places.specs.Place.{no_place}
use Rattle.laid.specs.Field.{joined}
use Rattle.laid.proofs.FieldLaws.{Stand, joined_append, stand_next, stand_past, stand_part}
use Rattle.storedrouter.specs.Place.{place_bytes, place_from}
use Rattle.storedrouter.specs.Settings.{settings_bytes, settings_from}
use Rattle.storedrouter.specs.Router.{spot, places_from, router_from, router_bytes, RouterStored}
use Rattle.storedrouter.proofs.SettingsLaws.{settings_length}
use Rattle.storedrouter.proofs.RouterLaws.{places_past, router_length}
use Rattle.storedrouter.proofs.LoadedLaws.{router_loaded}
use Rattle.inplace.proofs.SpotLaws.{router_many, router_place}

-- a part, read and stored again
abbrev pub settings_again : List ℕ → List ℕ
settings_again x = settings_bytes (settings_from x)

abbrev pub clock_again : List ℕ → List ℕ
clock_again x = bytes_of 8 (number_of x)

abbrev pub place_again : List ℕ → List ℕ
place_again x = place_bytes (place_from x)

-- every part of a state is the bytes of what it is read as
pub record Clean (s : List ℕ) : Type 0 where
  pub size : length s ≡ 6075
  pub settings : settings_again (take 371 (drop 0 s)) ≡ take 371 (drop 0 s)
  pub clock : clock_again (take 8 (drop 371 s)) ≡ take 8 (drop 371 s)
  pub places : (j : ℕ) → j < 64 → place_again (spot j s) ≡ spot j s

-- a part that is now the same as one of which this holds
pub part_clean : (again : List ℕ → List ℕ) {x y : List ℕ} → x ≡ y → again y ≡ y → again x ≡ x
part_clean again e c = ap again e ∙ c ∙ sym e

module _ (s : List ℕ) where
  -- the bytes of the first n places, where each is as stored
  places_joined : (n : ℕ) → ((j : ℕ) → j < n → place_again (spot j s) ≡ spot j s)
      → joined (map place_bytes (places_from n s)) ≡ take (n * 89) (drop 379 s)
  unfolding places_from
  places_joined zero h = refl
  places_joined (suc n) h =
      let next : suc n * 89 ≡ n * 89 + 89 = omega arith in
      ap joined (map-append place_bytes (places_from n s) (place_from (spot n s) ∷ []))
      ∙ joined_append (map place_bytes (places_from n s)) (place_again (spot n s) ∷ [])
      ∙ ap₂ (λ (x y : List ℕ). x ++ (y ++ [])) (places_joined n (λ j k. h j (omega arith))) (h n (omega arith))
      ∙ ap (λ (y : List ℕ). take (n * 89) (drop 379 s) ++ y) (append-nil (spot n s))
      ∙ sym
      (ap (λ (k : ℕ). take k (drop 379 s)) next
      ∙ take-add (n * 89) 89 (drop 379 s)
      ∙ ap (λ (x : List ℕ). take (n * 89) (drop 379 s) ++ take 89 x) (drop-drop (n * 89) 379 s))

  -- such a state is the bytes of its router
  pub clean_whole : Clean s → RouterStored s
  unfolding router_bytes router_from
  clean_whole c =
      let size = c.size in
      let rest : joined (map place_bytes (places_from 64 s)) ≡ drop 379 s =
      places_joined 64 c.places ∙ take_all 5696 (drop 379 s) (simp length-drop (omega arith)) in
      sym
      (ap₂ (λ (x y : List ℕ). x ++ y) c.settings (ap₂ (λ (x y : List ℕ). x ++ y) c.clock rest ∙ part_join 8 371 s)
      ∙ take-append-drop 371 s)

  -- and the other way round
  pub clean_of : Bytes s → RouterStored s → Clean s
  unfolding router_bytes router_from
  clean_of b e =
      let r = router_from s in
      let h = router_loaded s b in
      let many = router_many s in
      let v = settings_length r.settings h.settings in
      let w₀ : Stand s 0 (settings_bytes r.settings ∷ bytes_of 8 r.clock ∷ map place_bytes r.places) =
      record { rest = []; is = e ∙ sym (append-nil (router_bytes r)) } in
      let w₁ = stand_next w₀ 371 v in
      let w₂ = stand_past 8 r.clock w₁ in
      record {
        size = ap length e ∙ router_length r h;
        settings = sym (stand_part w₀ 371 v);
        clock = sym (stand_part w₁ 8 (bytes_length 8 r.clock));
        places = λ j k. sym (places_past j r.places h.places (omega arith) w₂ ∙ ap place_bytes (router_place s j no_place k));
      }
