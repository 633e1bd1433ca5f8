-- A router's settings that are stored and loaded again are the same settings.
use Prim.Native.Nat.{◌^◌, ◌<◌}
use mathlib.Core.Bool.{true, false}
use mathlib.Core.List.{[], ◌∷◌}
use mathlib.Core.Path.{◌≡◌, refl, ap, ◌∙◌}
use lib.Dec.{lit<}
use lib.ListN.{length}
use Rattle.std.specs.Prelude.{ℤ, Option, Some, None}
use Rattle.octets.specs.Numbers.{bytes_of, signed_of, unsigned_of}
use Rattle.octets.proofs.SignedLaws.{signed_unsigned, unsigned_small}
use Rattle.position.specs.declared.Position.{Position}
use Rattle.position.proofs.PositionLaws.{AngleHeld, PositionHeld}
use Rattle.places.specs.declared.state.Settings.{Settings}
use Rattle.laid.specs.Field.{flag_bytes, held_stored, held_from}
use Rattle.laid.specs.Around.{StringHeld, held_length, held_undone}
use Rattle.laid.proofs.FieldLaws.{long_none, long_more, long_flag, long_number, stand_all, stand_next, stand_past, stand_part, stand_array, stand_number}
use Rattle.storedrouter.specs.Settings.{angle_bytes, angle_from, position_stored, position_from, settings_bytes, settings_from}

-- what the code's types hold
pub record SettingsHeld (v : Settings) : Type 0 where
  pub window : v.window < 2 ^ 32
  pub unit : v.unit < 2 ^ 32
  pub lifetime : v.lifetime < 2 ^ 16
  pub network : v.network < 2 ^ 16
  pub address : length v.address ≡ 6
  pub ipv4 : length v.ipv4 ≡ 4
  pub secret : StringHeld v.secret
  pub position : PositionHeld v.position
  pub interval : v.interval < 2 ^ 16
  pub groups : length v.groups ≡ 64
  pub grouped : v.grouped < 2 ^ 64

-- how many bytes an angle has
angle_length : (a : Option ℤ) → length (angle_bytes a) ≡ 5
unfolding angle_bytes
angle_length None = (long_flag false (long_number 4 0 long_none)).is
angle_length (Some z) = (long_flag true (long_number 4 (unsigned_of 32 z) long_none)).is

-- every number of 32 bits is loaded again
angle_undone : (a : Option ℤ) → AngleHeld a → angle_from (angle_bytes a) ≡ a
unfolding angle_from angle_bytes
angle_undone None h = refl
angle_undone (Some z) h =
    let n = unsigned_of 32 z in
    let s₁ = stand_next (stand_all (flag_bytes true ∷ bytes_of 4 n ∷ [])) 1 refl in
    ap Some (ap (signed_of 32) (stand_number 4 n s₁ (unsigned_small 32 z (lit< tt) h)) ∙ signed_unsigned 32 z (lit< tt) h)

module _ (p : Position) (h : PositionHeld p) where
  -- how many bytes it has
  position_length : length (position_stored p) ≡ 14
  unfolding position_stored
  position_length =
      (long_more (angle_bytes p.latitude) 5 (angle_length p.latitude)
      (long_more (angle_bytes p.longitude) 5 (angle_length p.longitude)
      (long_number 2 (unsigned_of 16 p.sea)
      (long_number 2 (unsigned_of 16 p.land) long_none)))).is

  -- and it is loaded again
  position_undone : position_from (position_stored p) ≡ p
  unfolding position_from position_stored
  position_undone =
      let sea_number = unsigned_of 16 p.sea in
      let land_number = unsigned_of 16 p.land in
      let s₀ = stand_all _ in
      let latitude = ap angle_from (stand_part s₀ 5 (angle_length p.latitude)) ∙ angle_undone p.latitude h.latitude in
      let s₁ = stand_next s₀ 5 (angle_length p.latitude) in
      let longitude = ap angle_from (stand_part s₁ 5 (angle_length p.longitude)) ∙ angle_undone p.longitude h.longitude in
      let s₂ = stand_next s₁ 5 (angle_length p.longitude) in
      let sea = ap (signed_of 16) (stand_number 2 sea_number s₂ (unsigned_small 16 p.sea (lit< tt) h.sea)) ∙ signed_unsigned 16 p.sea (lit< tt) h.sea in
      let s₃ = stand_past 2 sea_number s₂ in
      let land = ap (signed_of 16) (stand_number {fs = []} 2 land_number s₃ (unsigned_small 16 p.land (lit< tt) h.land)) ∙ signed_unsigned 16 p.land (lit< tt) h.land in
      λ j. record { latitude = latitude j; longitude = longitude j; sea = sea j; land = land j }

module _ (v : Settings) (h : SettingsHeld v) where
  -- how many bytes they have
  pub settings_length : length (settings_bytes v) ≡ 371
  unfolding settings_bytes
  settings_length =
      (long_number 4 v.window
      (long_number 4 v.unit
      (long_number 2 v.lifetime
      (long_number 2 v.network
      (long_more v.address 6 h.address
      (long_more v.ipv4 4 h.ipv4
      (long_more (held_stored v.secret) 261 (held_length v.secret h.secret)
      (long_more (position_stored v.position) 14 (position_length v.position h.position)
      (long_number 2 v.interval
      (long_more v.groups 64 h.groups
      (long_number 8 v.grouped long_none))))))))))).is

  -- and they are loaded again
  pub settings_undone : settings_from (settings_bytes v) ≡ v
  unfolding settings_from settings_bytes
  settings_undone =
      let c = held_length v.secret h.secret in
      let p = position_length v.position h.position in
      let s₀ = stand_all _ in
      let window = stand_number 4 v.window s₀ h.window in
      let s₁ = stand_past 4 v.window s₀ in
      let unit = stand_number 4 v.unit s₁ h.unit in
      let s₂ = stand_past 4 v.unit s₁ in
      let lifetime = stand_number 2 v.lifetime s₂ h.lifetime in
      let s₃ = stand_past 2 v.lifetime s₂ in
      let network = stand_number 2 v.network s₃ h.network in
      let s₄ = stand_past 2 v.network s₃ in
      let address = stand_array s₄ 6 h.address in
      let s₅ = stand_next s₄ 6 h.address in
      let ipv4 = stand_array s₅ 4 h.ipv4 in
      let s₆ = stand_next s₅ 4 h.ipv4 in
      let secret = ap held_from (stand_part s₆ 261 c) ∙ held_undone v.secret h.secret in
      let s₇ = stand_next s₆ 261 c in
      let position = ap position_from (stand_part s₇ 14 p) ∙ position_undone v.position h.position in
      let s₈ = stand_next s₇ 14 p in
      let interval = stand_number 2 v.interval s₈ h.interval in
      let s₉ = stand_past 2 v.interval s₈ in
      let groups = stand_array s₉ 64 h.groups in
      let s₁₀ = stand_next s₉ 64 h.groups in
      let grouped = stand_number {fs = []} 8 v.grouped s₁₀ h.grouped in
      λ j. record {
        window = window j;
        unit = unit j;
        lifetime = lifetime j;
        network = network j;
        address = address j;
        ipv4 = ipv4 j;
        secret = secret j;
        position = position j;
        interval = interval j;
        groups = groups j;
        grouped = grouped j;
      }
