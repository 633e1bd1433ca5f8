-- A router's state of which all places lapse, one after the other, and the clock is put.
use Prim.Native.Nat.{ℕ, ◌+◌, ◌*◌, ◌<◌, ◌≤◌, ◌^◌}
use mathlib.Core.List.{List}
use mathlib.Core.Path.{◌≡◌, refl, sym, ap, subst, ◌∙◌}
use native.Mathlib.Omega.{arith}
use lib.Dec.{lit≤}
use lib.ListN.{length, take, drop}
use Rattle.octets.specs.Numbers.{Bytes, number_of, bytes_of}
use Rattle.octets.specs.Put.{put_in}
use Rattle.octets.proofs.BytesLaws.{part_bytes}
use Rattle.octets.proofs.ListLaws.{part_within}
use Rattle.octets.proofs.NumberLaws.{bytes_length, number_bytes}
use Rattle.octets.proofs.PutLaws.{put_in_length}
use Rattle.octets.proofs.PatchLaws.{put_in_part, part_before, part_past}
use Rattle.octets.proofs.SameLaws.{one_or_other}
use Rattle.places.specs.declared.place.Place.{Place}
use Rattle.places.specs.Place.{fresh_place, place_at}
use Rattle.places.specs.State.{lapsed_at}
use Rattle.places.proofs.LapseLaws.{lapsed_settings, lapsed_clock, lapsed_length, lapsed_place}
use Rattle.laid.specs.Field.{number_at}
use Rattle.storedrouter.specs.Place.{place_bytes, place_from}
use Rattle.storedrouter.specs.Settings.{settings_from}
use Rattle.storedrouter.specs.Router.{spot, router_from}
use Rattle.storedrouter.proofs.LoadedLaws.{place_loaded}
use Rattle.inplace.specs.Change.{Holds, lapsed_bytes}
use Rattle.inplace.proofs.SpotLaws.{router_many, router_place}
use Rattle.inplace.proofs.SaysLaws.{Says, says_lapsed}
use Rattle.inplace.proofs.CleanLaws.{settings_again, clock_again, place_again, Clean, part_clean}
use Rattle.inplace.proofs.HoldsLaws.{holds_made}
use Rattle.inplace.proofs.PlacedLaws.{settings_of_law, clock_is, router_is, spot_long, spot_here, spot_other, settings_stay}

-- the places below i have lapsed; the other places and the settings are as they were
pub record Lapsing (f : List ℕ → List ℕ) (s₀ s : List ℕ) (i : ℕ) : Type 0 where
  pub size : length s ≡ length s₀
  pub settings : take 371 (drop 0 s) ≡ take 371 (drop 0 s₀)
  pub done : (j : ℕ) → j < i → spot j s ≡ f (spot j s₀)
  pub rest : (j : ℕ) → i ≤ j → spot j s ≡ spot j s₀

-- before the first place
pub lapsing_none : (f : List ℕ → List ℕ) (s : List ℕ) → Lapsing f s s 0
lapsing_none f s = record { size = refl; settings = refl; done = λ j h. absurd (omega arith); rest = λ j h. refl }

-- one place more
pub lapsing_next : {f : List ℕ → List ℕ} {s₀ s s' : List ℕ} {i : ℕ} → ((b : List ℕ) → length (f b) ≡ length b) → length s₀ ≡ 6075 → i < 64
    → Lapsing f s₀ s i → s' ≡ put_in s (379 + i * 89) (f (spot i s)) → Lapsing f s₀ s' (i + 1)
lapsing_next {f} {s₀} {s} {s'} {i} keeps size few w e =
    let now : length s ≡ 6075 = w.size ∙ size in
    let long : length (f (spot i s)) ≡ 89 = keeps (spot i s) ∙ spot_long s i now few in
    let here = ap (spot i) e ∙ spot_here s now i few (f (spot i s)) long ∙ ap f (w.rest i (omega arith)) in
    let other : (j : ℕ) → (j ≡ i → ⊥) → spot j s' ≡ spot j s = λ j h. ap (spot j) e ∙ spot_other s now i few (f (spot i s)) long j h in
    record {
      size = ap length e ∙ put_in_length s (379 + i * 89) (f (spot i s)) ∙ w.size;
      settings = ap (λ (x : List ℕ). take 371 (drop 0 x)) e ∙ settings_stay s now i few (f (spot i s)) long ∙ w.settings;
      done = one_or_other (λ (j : ℕ). j < i + 1 → spot j s' ≡ f (spot j s₀)) i (λ k. here) (λ j h k. other j h ∙ w.done j (omega arith));
      rest = λ j k. other j (λ q. omega arith) ∙ w.rest j (omega arith);
    }

-- where the three settings stand that a lapse reads
module _ (s : List ℕ) where
  window_at : number_at 4 0 s ≡ (router_from s).settings.window
  unfolding router_from settings_from
  window_at = ap number_of (sym (part_within 371 0 4 s (lit≤ tt)))

  unit_at : number_at 4 4 s ≡ (router_from s).settings.unit
  unfolding router_from settings_from
  unit_at = ap number_of (sym (part_within 371 4 4 s (lit≤ tt)))

  lifetime_at : number_at 2 8 s ≡ (router_from s).settings.lifetime
  unfolding router_from settings_from
  lifetime_at = ap number_of (sym (part_within 371 8 2 s (lit≤ tt)))

-- all places have lapsed, and the clock is put
module _ (s₀ : List ℕ) (b : Bytes s₀) (size : length s₀ ≡ 6075) (clock : ℕ) (small : clock < 2 ^ 64) where
  -- what lapsing makes of the bytes of a place, and of the place
  abbrev f : List ℕ → List ℕ
  f = lapsed_bytes clock (router_from s₀).settings.window (router_from s₀).settings.lifetime (router_from s₀).settings.unit

  abbrev at : Place → Place
  at = place_at clock (router_from s₀).settings.window (router_from s₀).settings.lifetime (router_from s₀).settings.unit

  -- as stored, of place j
  abbrev So : ℕ → Type 0
  So j = spot j s₀ ≡ place_bytes (place_from (spot j s₀))

  -- the bytes and the place lapse alike
  says : (j : ℕ) → j < 64 → Says (So j) (f (spot j s₀)) (at (place_from (spot j s₀)))
  says j few =
      let held = place_loaded (spot j s₀) (part_bytes 89 (379 + j * 89) s₀ b) in
      let w : Says (So j) (spot j s₀) (place_from (spot j s₀)) =
      record { long = spot_long s₀ j size few; from = refl; held = held; bytes = λ c. c } in
      says_lapsed (So j) clock (router_from s₀).settings.window (router_from s₀).settings.lifetime (router_from s₀).settings.unit w

  module _ (s : List ℕ) (w : Lapsing f s₀ s 64) where
    -- the buffer at the end, and its parts
    abbrev ended : List ℕ
    ended = put_in s 371 (bytes_of 8 clock)

    spot_lapsed : (j : ℕ) → j < 64 → spot j ended ≡ f (spot j s₀)
    spot_lapsed j few =
        let eight = bytes_length 8 clock in
        part_past s 371 (bytes_of 8 clock) 89 (379 + j * 89) (omega arith) ∙ w.done j few

    settings_kept : take 371 (drop 0 ended) ≡ take 371 (drop 0 s₀)
    settings_kept = part_before s 371 (bytes_of 8 clock) 371 0 (omega arith) ∙ w.settings

    clock_put : take 8 (drop 371 ended) ≡ bytes_of 8 clock
    clock_put =
        let eight = bytes_length 8 clock in
        let long = w.size in
        ap (λ (n : ℕ). take n (drop 371 ended)) (sym eight) ∙ put_in_part s 371 (bytes_of 8 clock) (omega arith)

    -- it holds the router as lapsing leaves it
    lapsed_router : router_from ended ≡ lapsed_at clock (router_from s₀)
    lapsed_router =
        let r = router_from s₀ in
        router_is ended (lapsed_at clock r) (settings_of_law ended s₀ settings_kept ∙ sym (lapsed_settings clock r))
        (clock_is ended clock clock_put small ∙ sym (lapsed_clock clock r)) (lapsed_length clock r ∙ router_many s₀)
        (λ j k. ap place_from (spot_lapsed j k) ∙ (says j k).from ∙ sym (lapsed_place clock r j ∙ ap at (router_place s₀ j fresh_place k)))

    -- every part is as stored, where it was
    lapsed_clean : Clean s₀ → Clean ended
    lapsed_clean c =
        record {
          size = put_in_length s 371 (bytes_of 8 clock) ∙ w.size ∙ size;
          settings = part_clean settings_again settings_kept c.settings;
          clock = part_clean clock_again clock_put (ap (bytes_of 8) (number_bytes 8 clock small));
          places = λ j k. part_clean place_again (spot_lapsed j k) (ap place_bytes (says j k).from ∙ sym ((says j k).bytes (sym (c.places j k))));
        }

    -- both
    lapsed_holds : Holds s₀ ended (lapsed_at clock (router_from s₀))
    lapsed_holds =
        holds_made s₀ b ended (lapsed_at clock (router_from s₀)) size (put_in_length s 371 (bytes_of 8 clock) ∙ w.size) lapsed_router lapsed_clean

  -- the same with the settings as they are read
  pub lapse_holds : {window lifetime unit i : ℕ} {s after : List ℕ} → window ≡ number_at 4 0 s₀ → unit ≡ number_at 4 4 s₀
      → lifetime ≡ number_at 2 8 s₀ → i ≡ 64 → Lapsing (lapsed_bytes clock window lifetime unit) s₀ s i
      → after ≡ put_in s 371 (bytes_of 8 clock) → Holds s₀ after (lapsed_at clock (router_from s₀))
  lapse_holds {window} {lifetime} {unit} {i} {s} {after} e₁ e₂ e₃ e w q =
      let w' : Lapsing f s₀ s 64 = rw (e₁ ∙ window_at s₀, e₂ ∙ unit_at s₀, e₃ ∙ lifetime_at s₀, e) at w in
      subst (λ (x : List ℕ). Holds s₀ x (lapsed_at clock (router_from s₀))) (sym q) (lapsed_holds s w')
