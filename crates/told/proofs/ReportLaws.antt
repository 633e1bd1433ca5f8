-- The lines of the places, one after the other.
use Prim.Native.Nat.{ℕ, ◌+◌}
use mathlib.Core.Path.{◌≡◌}
use mathlib.Core.List.{List}
use native.Mathlib.Numerals.{add-one}
use Rattle.places.specs.declared.place.Place.{Place}
use Rattle.places.specs.declared.state.Router.{Router}
use Rattle.turn.specs.Outcome.{place_of}
use Rattle.told.specs.Print.{Puts}
use Rattle.told.specs.Report.{place_text, places_text}
use Rattle.told.proofs.PutsLaws.{puts_both, puts_none}

module _ (router : Router) {text : List ℕ} {at : ℕ} where
  -- before the first place
  pub places_none : Puts (places_text 0 router) text at text at
  unfolding places_text
  places_none = puts_none

  -- the line of one place more
  pub places_more : (i : ℕ) {p : Place} {first second : List ℕ} {r next : ℕ} → Puts (places_text i router) text at first r → p ≡ place_of i router
      → Puts (place_text i p) first r second next → Puts (places_text (i + 1) router) text at second next
  unfolding places_text
  places_more i h e k = rw (add-one, ← e) (puts_both h k)
