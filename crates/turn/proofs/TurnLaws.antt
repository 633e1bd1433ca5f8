-- One place of a state, and a turn of it as a step of a router that has the place.
use Rattle.std.specs.Prelude.{Result, Ok, Err, ⊤}
use Prim.Native.Nat.{ℕ, zero, suc, ◌<◌, ◌≤◌}
use native.Mathlib.Omega.{arith}
use native.Mathlib.Nat.{le_of_suc-le-suc}
use mathlib.Core.Path.{◌≡◌, refl, sym, ap, ◌∙◌}
use mathlib.Core.List.{List, [], ◌∷◌}
use lib.ListN.{length, get_or, set, get_or-eq_default}
use lib.Seq.{set-get_or, set_out}
use Rattle.refusal.specs.declared.Outcome.{Outcome}
use Rattle.refusal.specs.Step.{refused_with, by_writer}
use Rattle.refusal.specs.declared.Refusal.{Refusal}
use Rattle.refusal.specs.declared.To.{To}
use Rattle.places.specs.declared.place.Place.{Place}
use Rattle.places.specs.declared.state.Router.{Router}
use Rattle.places.specs.Place.{fresh_place, no_place}
use Rattle.turn.specs.Outcome.{place_of, with_place}
use Rattle.turn.specs.OnePlace.{turned_to}

-- within a list it does not count what would stand past its end
read_within : {A : Type 0} (l : List A) (i : ℕ) (d e : A) → i < length l → get_or l i d ≡ get_or l i e
read_within [] i d e h = absurd (omega arith)
read_within (x ∷ l) zero d e h = refl
read_within (x ∷ l) (suc i) d e h = read_within l i d e (le_of_suc-le-suc h)

module _ (r : Router) (i : ℕ) (whole : length r.places ≡ 64) where
  -- what the code reads at a number is the place with that number
  pub place_within : i < 64 → get_or r.places i no_place ≡ place_of i r
  unfolding place_of
  place_within h = read_within r.places i no_place fresh_place (omega arith)

  -- past the last one it is the fresh place
  pub place_past : 64 ≤ i → fresh_place ≡ place_of i r
  unfolding place_of
  place_past h = sym (get_or-eq_default r.places fresh_place (omega arith))

  -- a number past the last place changes nothing
  pub with_past : 64 ≤ i → (p : Place) → r ≡ with_place i p r
  unfolding with_place
  with_past h p = ap (λ (l : List Place). record { settings = r.settings; clock = r.clock; places = l }) (sym (set_out r.places i p (omega arith)))

-- a place that stays leaves the state as it is
pub state_stays : (q : Router) (i : ℕ) {p : Place} → place_of i q ≡ p → with_place i p q ≡ q
unfolding place_of with_place
state_stays q i e =
    ap (λ (l : List Place). record { settings = q.settings; clock = q.clock; places = l })
    (ap (set q.places i) (sym e) ∙ set-get_or q.places i fresh_place)

-- a turn that leaves the place as it is refuses at the state as it is
pub turned_still : (q : Router) (i : ℕ) {p : Place} {t : Outcome Place} {why : Refusal} → place_of i q ≡ p → t ≡ (refused_with why p []).outcome
    → turned_to q i t ≡ (refused_with why q []).outcome
turned_still q i {why = why} f e = ap (turned_to q i) e ∙ ap (λ (r : Router). (refused_with why r []).outcome) (state_stays q i f)

-- what a writer's answer makes of the place, it makes of the state; p'' is the code's name for the new place p'
pub turned_by : (a : Result ⊤ Refusal) (w : Result ℕ Refusal) (q : Router) (i : ℕ) {p p'' : Place} (p' : Place) (to : To) {t : Outcome Place} → place_of i q ≡ p
    → p'' ≡ p' → t ≡ by_writer w a p p'' to → turned_to q i t ≡ by_writer w a q (with_place i p' q) to
turned_by a (Err why) q i p' to f s e = turned_still q i f e
turned_by a (Ok n) q i p' to f s e = rw (e, s)
