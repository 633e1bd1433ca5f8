-- The state of a router in 6,075 bytes (docs/BOUNDARY.md).
use Rattle.std.specs.Prelude.{ℕ, zero, suc, ◌+◌, ◌*◌, ◌≡◌, List, [], ◌∷◌, ◌++◌, map, take, drop}
use Rattle.octets.specs.Numbers.{bytes_of}
use Rattle.places.specs.declared.place.Place.{Place}
use Rattle.places.specs.declared.state.Router.{Router}
use Rattle.laid.specs.Field.{joined, number_at}
use Rattle.storedrouter.specs.Place.{place_bytes, place_from}
use Rattle.storedrouter.specs.Settings.{settings_bytes, settings_from}

-- settings, clock and 64 places
abbrev pub router_size : ℕ
router_size = 371 + 8 + 64 * 89

-- settings, clock, and one place after the other
unfoldable pub router_bytes : Router → List ℕ
router_bytes r = joined (settings_bytes r.settings ∷ bytes_of 8 r.clock ∷ map place_bytes r.places)

-- the bytes of place i: 89, past settings, clock and the places before it
abbrev pub spot : ℕ → List ℕ → List ℕ
spot i s = take 89 (drop (379 + i * 89) s)

-- the first n places, each read at its spot
unfoldable pub places_from : ℕ → List ℕ → List Place
places_from zero s = []
places_from (suc n) s = places_from n s ++ (place_from (spot n s) ∷ [])

-- every byte string is read as a router: bytes that are missing count as 0
unfoldable pub router_from : List ℕ → Router
router_from s = record { settings = settings_from (take 371 (drop 0 s)); clock = number_at 8 371 s; places = places_from 64 s }

-- a buffer with the bytes of a router as they are stored: what setup leaves where it makes one, and every call where it found one so
abbrev pub RouterStored : List ℕ → Type 0
RouterStored state = state ≡ router_bytes (router_from state)
