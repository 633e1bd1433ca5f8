-- The router's beacon: its groups are a list, it is never too long, and it goes out.
use Rattle.std.specs.Prelude.{Result}
use Rattle.std.proofs.lemmas.List.{take_min}
use Prim.Native.Nat.{ℕ, ◌*◌, ◌%◌, ◌<◌, ◌≤◌, min}
use mathlib.Core.Path.{◌≡◌, refl, ap, ◌∙◌}
use mathlib.Core.Bool.{Bool, true, false}
use mathlib.Core.List.{List, [], ◌∷◌}
use native.Mathlib.Omega.{arith}
use native.Mathlib.Nat.{mul-mod_left, mul_comm}
use lib.Dec.{leb}
use lib.ListN.{length, take}
use lib.Seq.{take_all, length-take-le}
use borrow.Author.Tests.{le-ltb, le-leb, leb-true, leb-false}
use Rattle.refusal.specs.declared.Outcome.{Outcome}
use Rattle.refusal.specs.Step.{done, by_writer}
use Rattle.refusal.specs.declared.Refusal.{Refusal}
use Rattle.octets.specs.Numbers.{bytes_of}
use Rattle.refusal.specs.declared.To.TheVariants.{Everyone}
use Rattle.object.specs.declared.family.Family.TheVariants.{Misp}
use Rattle.object.specs.Family.{limit_of}
use Rattle.message.specs.Writing.{is_list, is_below, Writes}
use Rattle.beacons.specs.declared.beacon.Extras.{Extras}
use Rattle.beacons.specs.Beacon.{beacon_values, beacon_bytes, extras_in_range, beacon_in_range}
use Rattle.beacons.proofs.RoundTrip.{beacon_fits}
use Rattle.places.specs.declared.state.Settings.{Settings}
use Rattle.places.specs.declared.state.Router.{Router}
use Rattle.places.specs.State.{groups_of, lapsed_at}
use Rattle.refusal.specs.Step.{Leaves}
use Rattle.router.specs.Beacon.{no_extras, own_beacon, beacon_of, beaconed}
use Rattle.turn.proofs.StepLaws.{sent_whole}

-- a beacon is in range where its groups are a list
pub beacon_range : (s : Settings) (clock serial : ℕ) → is_list 4 (groups_of s) ≡ true → beacon_in_range (own_beacon s clock serial) ≡ true
unfolding beacon_in_range extras_in_range is_below is_list bytes_of
beacon_range s clock serial e = rw e

module _ (s : Settings) (whole : length s.groups ≡ 64) where
  -- a number of groups past the array counts as the array's
  pub groups_all : 16 < s.grouped → length (groups_of s) ≡ 64
  unfolding groups_of
  groups_all h = ap length (take_all (4 * s.grouped) s.groups (omega arith)) ∙ whole

  -- else so many groups of four bytes
  pub groups_some : s.grouped ≤ 16 → length (groups_of s) ≡ 4 * s.grouped
  unfolding groups_of
  groups_some h = length-take-le (4 * s.grouped) s.groups (omega arith)

  -- the bytes that the code takes
  pub groups_counted : take (4 * min s.grouped 16) s.groups ≡ groups_of s
  unfolding groups_of
  groups_counted =
      let same : 4 * min s.grouped 16 ≡ min (4 * s.grouped) (length s.groups) = omega (arith, whole) in
      rw same (take_min (4 * s.grouped) s.groups)

  -- the groups are a list
  groups_list : is_list 4 (groups_of s) ≡ true
  unfolding is_list
  groups_list = go (leb s.grouped 16) refl
    where
      four : (n : ℕ) → (4 * n) % 4 ≡ 0
      four n = ap (λ (x : ℕ). x % 4) (mul_comm 4 n) ∙ mul-mod_left n 4

      go : (b : Bool) → leb s.grouped 16 ≡ b → is_list 4 (groups_of s) ≡ true
      go true e =
          let h = leb-true s.grouped 16 e in
          rw (groups_some h, le-leb (4 * s.grouped) 253 (omega arith), four s.grouped)
      go false e = rw (groups_all (omega (arith, leb-false s.grouped 16 e)))

  -- the writer of beacons, given what the code gives it
  pub beacon_written : (clock serial : ℕ) {part layers before after : List ℕ} {extras : Extras} {r : Result ℕ Refusal} → part ≡ groups_of s → layers ≡ bytes_of 2 s.network → extras ≡ no_extras
      → Writes Misp (beacon_in_range (beacon_values clock part serial s.interval (0 ∷ 2 ∷ 0 ∷ 3 ∷ []) layers extras))
      (beacon_bytes (beacon_values clock part serial s.interval (0 ∷ 2 ∷ 0 ∷ 3 ∷ []) layers extras)) before after r
      → Writes Misp true (beacon_of s clock serial) before after r
  unfolding beacon_of bytes_of
  beacon_written clock serial g l e w = rw (g, l, e, beacon_range s clock serial groups_list) at w

-- the router's beacon is never too long
beacon_of_fits : (s : Settings) (clock serial : ℕ) → length (beacon_of s clock serial) ≤ limit_of Misp
unfolding beacon_of
beacon_of_fits s clock serial = beacon_fits (own_beacon s clock serial)

-- past 20 and 7 the beacon goes out, to everyone
pub beacon_sent : (r : Router) (clock serial : ℕ) {out : List ℕ} {q : Router} {w : Result ℕ Refusal} {o : Outcome Router} {after : List ℕ} → limit_of Misp ≤ length out
    → r.clock ≤ clock → q ≡ lapsed_at clock r → Writes Misp true (beacon_of q.settings clock serial) out after w
    → o ≡ by_writer w done q q Everyone → Leaves (beaconed r clock serial out) o after
unfolding beaconed lapsed_at
beacon_sent r clock serial {q = q} h k e x p =
    let y = sent_whole done q q Everyone x (beacon_of_fits q.settings clock serial) h in
    rw (le-ltb _ _ h, le-ltb _ _ k) (rw (← p, e) at y)
