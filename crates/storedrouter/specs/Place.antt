-- A place of a router in 89 bytes (docs/BOUNDARY.md).
use Rattle.std.specs.Prelude.{ℕ, List, [], ◌∷◌, take, drop, slice_index}
use Rattle.octets.specs.Numbers.{bytes_of}
use Rattle.places.specs.declared.place.Attempt.{Attempt}
use Rattle.places.specs.declared.place.Session.{Session}
use Rattle.places.specs.declared.place.Place.{Place}
use Rattle.laid.specs.Field.{joined, flag_bytes, flag_of, number_at, array_at}

-- an attempt: whether one waits, its stamp and its check value
unfoldable pub attempt_bytes : Attempt → List ℕ
attempt_bytes a = joined (flag_bytes a.waiting ∷ bytes_of 8 a.stamp ∷ a.check ∷ [])

-- .. and read again
unfoldable pub attempt_from : List ℕ → Attempt
attempt_from s = record { waiting = flag_of (slice_index s 0); stamp = number_at 8 1 s; check = array_at 16 9 s }

-- a session: whether one is open, its stamp, check value and key, and when it was opened
unfoldable pub session_bytes : Session → List ℕ
session_bytes v = joined (flag_bytes v.live ∷ bytes_of 8 v.stamp ∷ v.check ∷ v.key ∷ bytes_of 8 v.since ∷ [])

-- .. and read again
unfoldable pub session_from : List ℕ → Session
session_from s =
    record {
      live = flag_of (slice_index s 0);
      stamp = number_at 8 1 s;
      check = array_at 16 9 s;
      key = array_at 16 25 s;
      since = number_at 8 41 s;
    }

-- a place: whether it is taken, its address and last stamp, its attempt and its session
unfoldable pub place_bytes : Place → List ℕ
place_bytes p = joined (flag_bytes p.taken ∷ p.address ∷ bytes_of 8 p.last ∷ attempt_bytes p.attempt ∷ session_bytes p.session ∷ [])

-- .. and read again
unfoldable pub place_from : List ℕ → Place
place_from s =
    record {
      taken = flag_of (slice_index s 0);
      address = array_at 6 1 s;
      last = number_at 8 7 s;
      attempt = attempt_from (take 25 (drop 15 s));
      session = session_from (take 49 (drop 40 s));
    }
