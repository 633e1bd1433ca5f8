-- Setup: the ranges, the router that is made, and what is made where a setting is out of its range.
use Prim.Native.Nat.{ℕ, ◌*◌, ◌/◌, ◌%◌, ◌<◌, ◌≤◌}
use native.Mathlib.Omega.{arith}
use mathlib.Core.Path.{◌≡◌, refl, sym, ◌∙◌}
use mathlib.Core.List.{List}
use mathlib.Core.Bool.{true, false}
use lib.Dec.{leb}
use lib.ListN.{length, get_or, length-replicate, get_or-replicate}
use borrow.Author.Tests.{leb-true, eqb-true}
use Rattle.std.specs.Prelude.{Ok, Err}
use Rattle.refusal.specs.declared.Refusal.TheVariants.{OutOfRange}
use Rattle.refusal.proofs.StepLaws.{one_value}
use Rattle.octets.specs.Range.{within}
use Rattle.octets.proofs.ChoiceLaws.{both_left, both_right}
use Rattle.octets.proofs.FittedLaws.{fitted_start}
use Rattle.octets.proofs.RangeLaws.{within_is}
use Rattle.held.specs.Held.{held_bytes}
use Rattle.held.proofs.HeldLaws.{held_bytes_law}
use Rattle.position.specs.declared.Position.{Position}
use Rattle.position.specs.Position.{in_range}
use Rattle.places.specs.declared.state.Settings.{Settings}
use Rattle.places.specs.declared.state.Router.{Router}
use Rattle.places.specs.Place.{fresh_place}
use Rattle.places.specs.State.{numbers_in_range, strings_in_range, settings_in_range, groups_of, fresh_router, settings_of, set_up_router}

-- The numbers are in their ranges: network number n, beacon interval b.
pub record Numbers (w u l n b : ℕ) : Type 0 where
  pub window : (1 ≤ w) × (w ≤ 4294967295)
  pub unit : (1 ≤ u) × (u ≤ 4294967295)
  pub lifetime : (1 ≤ l) × (l ≤ 65535)
  pub network : n ≤ 65535
  pub interval : b ≤ 65535

-- what the test says
pub numbers_in_range_law : (w u l n b : ℕ) → numbers_in_range w u l n b ≡ true → Numbers w u l n b
unfolding numbers_in_range
numbers_in_range_law w u l n b e =
    let past_window = both_right (within 1 4294967295 w) _ e in
    let past_unit = both_right (within 1 4294967295 u) _ past_window in
    let past_lifetime = both_right (within 1 65535 l) _ past_unit in
    record {
      window = within_is 1 4294967295 w (both_left (within 1 4294967295 w) _ e);
      unit = within_is 1 4294967295 u (both_left (within 1 4294967295 u) _ past_window);
      lifetime = within_is 1 65535 l (both_left (within 1 65535 l) _ past_unit);
      network = leb-true n 65535 (both_left (leb n 65535) _ past_lifetime);
      interval = leb-true b 65535 (both_right (leb n 65535) _ past_lifetime);
    }

-- The secret s and the groups g are in their ranges.
pub record Strings (s g : List ℕ) : Type 0 where
  pub secret : (1 ≤ length s) × (length s ≤ 253)
  pub most : length g ≤ 64
  pub fours : length g % 4 ≡ 0

-- what the test says
pub strings_in_range_law : (s g : List ℕ) → strings_in_range s g ≡ true → Strings s g
unfolding strings_in_range
strings_in_range_law s g e =
    let past_secret = both_right (within 1 253 (length s)) _ e in
    record {
      secret = within_is 1 253 (length s) (both_left (within 1 253 (length s)) _ e);
      most = leb-true (length g) 64 (both_left (leb (length g) 64) _ past_secret);
      fours = eqb-true (length g % 4) 0 (both_right (leb (length g) 64) _ past_secret);
    }

-- Every setting is in its range, the position p too.
pub record SettingsFit (w u l n : ℕ) (s : List ℕ) (p : Position) (b : ℕ) (g : List ℕ) : Type 0 where
  pub numbers : Numbers w u l n b
  pub position : in_range p ≡ true
  pub strings : Strings s g

-- what the test says
pub settings_in_range_law : (w u l n : ℕ) (s : List ℕ) (p : Position) (b : ℕ) (g : List ℕ) → settings_in_range w u l n s p b g ≡ true
    → SettingsFit w u l n s p b g
unfolding settings_in_range
settings_in_range_law w u l n s p b g e =
    let past_numbers = both_right (numbers_in_range w u l n b) _ e in
    record {
      numbers = numbers_in_range_law w u l n b (both_left (numbers_in_range w u l n b) _ e);
      position = both_left (in_range p) _ past_numbers;
      strings = strings_in_range_law s g (both_right (in_range p) _ past_numbers);
    }

-- the places of a fresh router
pub fresh_length : (s : Settings) → length (fresh_router s).places ≡ 64
unfolding fresh_router
fresh_length s = length-replicate 64 fresh_place

pub fresh_place_law : (s : Settings) (i : ℕ) → i < 64 → get_or (fresh_router s).places i fresh_place ≡ fresh_place
unfolding fresh_router
fresh_place_law s i h = get_or-replicate 64 i fresh_place fresh_place h

-- network number n, address a, IPv4 address v, secret s, position p, beacon interval b and groups g
module _ (w u l n : ℕ) (a v s : List ℕ) (p : Position) (b : ℕ) (g : List ℕ) where
  abbrev made : Settings
  made = settings_of w u l n a v s p b g

  -- the groups are the bytes given
  pub groups_given_law : length g ≤ 64 → length g % 4 ≡ 0 → groups_of made ≡ g
  unfolding settings_of groups_of
  groups_given_law h f =
      let whole : 4 * (length g / 4) ≡ length g = omega arith in
      rw whole (fitted_start 64 g h)

  pub secret_given : length s ≤ 253 → held_bytes made.secret ≡ s
  unfolding settings_of
  secret_given h = held_bytes_law s h

  -- The router that is made.
  pub record Made (r : Router) : Type 0 where
    pub window : r.settings.window ≡ w
    pub unit : r.settings.unit ≡ u
    pub lifetime : r.settings.lifetime ≡ l
    pub network : r.settings.network ≡ n
    pub address : r.settings.address ≡ a
    pub ipv4 : r.settings.ipv4 ≡ v
    pub secret : held_bytes r.settings.secret ≡ s
    pub position : r.settings.position ≡ p
    pub interval : r.settings.interval ≡ b
    pub groups : groups_of r.settings ≡ g
    pub clock : r.clock ≡ 0
    pub many : length r.places ≡ 64
    pub fresh : (i : ℕ) → i < 64 → get_or r.places i fresh_place ≡ fresh_place

  made_router : Strings s g → Made (fresh_router made)
  unfolding settings_of fresh_router
  made_router h =
      record {
        window = refl;
        unit = refl;
        lifetime = refl;
        network = refl;
        address = refl;
        ipv4 = refl;
        secret = secret_given h.secret.1;
        position = refl;
        interval = refl;
        groups = groups_given_law h.most h.fours;
        clock = refl;
        many = fresh_length made;
        fresh = fresh_place_law made;
      }

  -- every setting in its range: done
  pub setup_done : settings_in_range w u l n s p b g ≡ true → set_up_router w u l n a v s p b g ≡ Ok (fresh_router made)
  unfolding set_up_router
  setup_done e = rw e

  -- every setting in its range: the router is made of them
  pub setup_router : settings_in_range w u l n s p b g ≡ true → {r : Router} → set_up_router w u l n a v s p b g ≡ Ok r → Made r
  setup_router e f = let same = one_value (sym (setup_done e) ∙ f) in rw same at (made_router (settings_in_range_law w u l n s p b g e).strings)

  -- one that is not: 18, and nothing is made
  pub setup_refused : settings_in_range w u l n s p b g ≡ false → set_up_router w u l n a v s p b g ≡ Err OutOfRange
  unfolding set_up_router
  setup_refused e = rw e
