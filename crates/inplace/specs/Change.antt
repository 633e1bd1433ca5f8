-- A router's state that is changed where it stands (DECISIONS, 53).
use Rattle.std.specs.Prelude.{ℕ, Bool, List, ◌≡◌, length, replicate, slice_index}
use Rattle.octets.specs.Choice.{pick}
use Rattle.octets.specs.Put.{put_in}
use Rattle.clock.specs.Clock.{is_stale, is_over}
use Rattle.places.specs.declared.state.Router.{Router}
use Rattle.laid.specs.Field.{flag_of, number_at}
use Rattle.storedrouter.specs.Router.{router_size, router_from, router_bytes, RouterStored}

-- a buffer after a call that makes the router r of the one that it held
pub record Holds (before after : List ℕ) (r : Router) : Type 0 where
  -- its length stays
  pub size : length after ≡ length before
  -- a buffer of the size of a state holds r
  pub holds : length before ≡ router_size → router_from after ≡ r
  -- a buffer of another size stays as it was
  pub other : (length before ≡ router_size → ⊥) → after ≡ before
  -- where the buffer held the bytes of its router, as they are stored, it holds those of r
  pub stored : RouterStored before → after ≡ router_bytes r

-- for `blank`: zeros in the place of n bytes at an offset, where a test holds
unfoldable pub blanked : Bool → ℕ → ℕ → List ℕ → List ℕ
blanked goes at n b = pick goes (put_in b at (replicate n 0)) b

-- for `lapse_place`: 'an attempt when now - stamp > W' goes from the bytes of a place, its 25 bytes are zeros
unfoldable pub attempt_gone : ℕ → ℕ → List ℕ → List ℕ
attempt_gone now window b = blanked (is_stale now (number_at 8 16 b) window) 15 25 b

-- 'a session when now - since > L x U': its 49 bytes are zeros
unfoldable pub session_gone : ℕ → ℕ → ℕ → List ℕ → List ℕ
session_gone now lifetime unit b = blanked (is_over now (number_at 8 81 b) lifetime unit) 40 49 b

-- 'what has lapsed goes': the attempt, the session, 'then a place with no session', all 89 bytes of it, where its last stamp is stale; the bytes of a place
-- that is not taken stay (DECISIONS, 18)
unfoldable pub lapsed_bytes : ℕ → ℕ → ℕ → ℕ → List ℕ → List ℕ
lapsed_bytes now window lifetime unit b =
    let v = session_gone now lifetime unit (attempt_gone now window b) in
    pick (flag_of (slice_index b 0)) (pick (flag_of (slice_index v 40)) v (blanked (is_stale now (number_at 8 7 v) window) 0 89 v)) b
