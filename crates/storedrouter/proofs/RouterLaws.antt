-- The places of a router, one after the other; and a router that is stored and loaded again is the same router.
use Prim.Native.Nat.{ℕ, zero, suc, ◌+◌, ◌*◌, ◌^◌, ◌≤◌, ◌<◌}
use mathlib.Core.Bool.{Bool, true, false}
use mathlib.Core.List.{List, [], ◌∷◌, ◌++◌, map, map-append, append_assoc, append-nil}
use mathlib.Core.Path.{◌≡◌, refl, sym, ap, ap₂, ◌∙◌}
use native.Mathlib.Omega.{arith}
use native.Mathlib.Numerals.{add-one}
use lib.ListN.{length, get_or, take, drop, set, replicate, length-append, get_or-append}
use lib.Dec.{ltb}
use lib.Seq.{get_or_at, take-suc, take-suc-set, take_all}
use borrow.Author.Tests.{ltb-true, ltb-false}
use Rattle.octets.specs.Put.{put_in}
use Rattle.places.specs.declared.place.Place.{Place}
use Rattle.places.specs.declared.state.Router.{Router}
use Rattle.places.specs.Place.{no_place}
use Rattle.laid.specs.Field.{joined}
use Rattle.laid.proofs.FieldLaws.{Filled, filled_more, filled_all, Long, long_none, long_more, long_number, Stand, stand_all, stand_next, stand_past, stand_part, stand_number}
use Rattle.storedrouter.specs.Place.{place_bytes, place_from}
use Rattle.storedrouter.specs.Settings.{settings_bytes, settings_from}
use Rattle.storedrouter.specs.Router.{router_size, spot, places_from, router_bytes, router_from}
use Rattle.storedrouter.proofs.PlaceLaws.{PlaceHeld, EachHeld, place_length, place_undone}
use Rattle.storedrouter.proofs.SettingsLaws.{SettingsHeld, settings_length, settings_undone}

-- as many places as are read
pub places_many : (n : ℕ) (s : List ℕ) → length (places_from n s) ≡ n
unfolding places_from
places_many zero s = refl
places_many (suc n) s = simp (length-append, places_many n s) (omega arith)

-- place i of the first n
pub place_among : (n i : ℕ) (s : List ℕ) (d : Place) → i < n → get_or (places_from n s) i d ≡ place_from (spot i s)
unfolding places_from
place_among zero i s d h = absurd (omega arith)
place_among (suc n) i s d h = go (ltb i n) refl (place_among n i s d)
  where
    go : (b : Bool) → ltb i n ≡ b → (i < n → get_or (places_from n s) i d ≡ place_from (spot i s))
        → get_or (places_from n s ++ (place_from (spot n s) ∷ [])) i d ≡ place_from (spot i s)
    go true e before =
        let below = ltb-true i n e in
        let many = places_many n s in
        let within : i < length (places_from n s) = omega arith in
        get_or-append (places_from n s) (place_from (spot n s) ∷ []) d i within ∙ before below
    go false e before =
        let above = ltb-false i n e in
        let last : n ≡ i = omega arith in
        get_or_at (places_from n s) (place_from (spot n s)) [] d i (places_many n s ∙ last) ∙ ap (λ (k : ℕ). place_from (spot k s)) last

-- one place more is read
pub places_next : (s : List ℕ) (places : List Place) (i : ℕ) {part : List ℕ} {p : Place} → i < length places
    → take i places ≡ places_from i s → part ≡ spot i s → p ≡ place_from part
    → take (i + 1) (set places i p) ≡ places_from (i + 1) s
unfolding places_from
places_next s places i {part} {p} h e q r =
    ap (λ (n : ℕ). take n (set places i p)) (add-one i)
    ∙ take-suc-set places i p h
    ∙ ap₂ (λ (l : List Place) (x : Place). l ++ (x ∷ [])) e (r ∙ ap place_from q)
    ∙ ap (λ (n : ℕ). places_from n s) (sym (add-one i))

-- Where fields stand in front, the first i places were put past them.
pub record Placing (places : List Place) (out₀ out : List ℕ) (i : ℕ) : Type 0 where
  pub after : (l₀ : List ℕ) (fs : List (List ℕ)) → Filled l₀ 6075 fs 379 out₀
      → Filled l₀ 6075 (fs ++ map place_bytes (take i places)) (379 + i * 89) out

-- before the first place
pub placing_none : {places : List Place} {out₀ : List ℕ} → Placing places out₀ out₀ 0
placing_none {places} {out₀} = record { after = λ l₀ fs w. rw append-nil w }

-- one place more is put
pub placing_next : {places : List Place} {out₀ out out' : List ℕ} {i : ℕ} {v : List ℕ} → Placing places out₀ out i
    → i < length places → i < 64 → v ≡ place_bytes (get_or places i no_place) → length v ≡ 89 → out' ≡ put_in out (379 + i * 89) v
    → Placing places out₀ out' (i + 1)
placing_next {places} {out₀} {out} {out'} {i} {v} w h few e long q = record { after = next }
  where
    p : Place
    p = get_or places i no_place

    next : (l₀ : List ℕ) (fs : List (List ℕ)) → Filled l₀ 6075 fs 379 out₀
        → Filled l₀ 6075 (fs ++ map place_bytes (take (i + 1) places)) (379 + (i + 1) * 89) out'
    next l₀ fs f =
        let front : fs ++ map place_bytes (take (i + 1) places) ≡ (fs ++ map place_bytes (take i places)) ++ (place_bytes p ∷ []) =
        rw (add-one, take-suc places i no_place h, map-append) (sym (append_assoc fs (map place_bytes (take i places)) (place_bytes p ∷ []))) in
        let end : 379 + (i + 1) * 89 ≡ 379 + i * 89 + 89 = omega arith in
        rw (front, end) (filled_more (w.after l₀ fs f) (place_bytes p) 89 e long (omega arith) q)

-- all places are put
pub placing_all : {places : List Place} {out₀ out : List ℕ} {i : ℕ} {fs : List (List ℕ)} → Placing places out₀ out i
    → Filled (replicate 6075 0) 6075 fs 379 out₀ → length places ≡ 64 → i ≡ 64 → out ≡ joined (fs ++ map place_bytes places)
placing_all {places} {out₀} {out} {i} {fs} w f many e =
    let all : take i places ≡ places = take_all i places (omega arith) in
    let end : 379 + i * 89 ≡ 6075 = omega arith in
    filled_all (rw (all, end) at (w.after (replicate 6075 0) fs f))

-- what the code's types hold
pub record RouterHeld (r : Router) : Type 0 where
  pub settings : SettingsHeld r.settings
  pub clock : r.clock < 2 ^ 64
  pub many : length r.places ≡ 64
  pub places : EachHeld r.places

-- 89 bytes for each place
places_long : (ps : List Place) → EachHeld ps → Long (map place_bytes ps) (length ps * 89)
places_long [] h = long_none
places_long (p ∷ ps) h =
    let e : 89 + length ps * 89 ≡ length (p ∷ ps) * 89 = omega arith in
    record { is = (long_more (place_bytes p) 89 (place_length p h.0) (places_long ps h.1)).is ∙ e }

-- place n is within its types
held_at : (n : ℕ) (ps : List Place) → EachHeld ps → n < length ps → PlaceHeld (get_or ps n no_place)
held_at n [] h below = absurd (omega arith)
held_at zero (p ∷ ps) h below = h.0
held_at (suc n) (p ∷ ps) h below = held_at n ps h.1 (omega arith)

-- the fields past n places
pub places_past : {s : List ℕ} {at : ℕ} (n : ℕ) (ps : List Place) → EachHeld ps → n < length ps → Stand s at (map place_bytes ps)
    → take 89 (drop (at + n * 89) s) ≡ place_bytes (get_or ps n no_place)
places_past n [] h below w = absurd (omega arith)
places_past {s} {at} zero (p ∷ ps) h below w =
    let e : at + 0 * 89 ≡ at = omega arith in
    rw e (stand_part w 89 (place_length p h.0))
places_past {s} {at} (suc n) (p ∷ ps) h below w =
    let e : at + suc n * 89 ≡ at + 89 + n * 89 = omega arith in
    rw e (places_past {at = at + 89} n ps h.1 (omega arith) (stand_next w 89 (place_length p h.0)))

-- the first n places are loaded again
places_undone : (s : List ℕ) (ps : List Place) → EachHeld ps → Stand s 379 (map place_bytes ps) → (n : ℕ) → n ≤ length ps → places_from n s ≡ take n ps
unfolding places_from
places_undone s ps h w zero few = refl
places_undone s ps h w (suc n) few =
    let below : n < length ps = omega arith in
    ap₂ (λ (l : List Place) (p : Place). l ++ (p ∷ []))
    (places_undone s ps h w n (omega arith)) (ap place_from (places_past n ps h below w) ∙ place_undone (get_or ps n no_place) (held_at n ps h below))
    ∙ sym (take-suc ps n no_place (omega arith))

module _ (r : Router) (h : RouterHeld r) where
  -- how many bytes a router has
  pub router_length : length (router_bytes r) ≡ router_size
  unfolding router_bytes
  router_length =
      let many = h.many in
      let e : 371 + (8 + length r.places * 89) ≡ router_size = omega arith in
      (long_more (settings_bytes r.settings) 371 (settings_length r.settings h.settings)
      (long_number 8 r.clock (places_long r.places h.places))).is ∙ e

  -- loading undoes storing
  pub router_undone : router_from (router_bytes r) ≡ r
  unfolding router_from router_bytes
  router_undone =
      let many = h.many in
      let v = settings_length r.settings h.settings in
      let s₀ = stand_all _ in
      let settings = ap settings_from (stand_part s₀ 371 v) ∙ settings_undone r.settings h.settings in
      let s₁ = stand_next s₀ 371 v in
      let clock = stand_number 8 r.clock s₁ h.clock in
      let s₂ = stand_past 8 r.clock s₁ in
      let places = places_undone _ r.places h.places s₂ 64 (omega arith) ∙ take_all 64 r.places (omega arith) in
      λ j. record { settings = settings j; clock = clock j; places = places j }
