-- The state of a node in 623 bytes (docs/BOUNDARY.md).
use Rattle.std.specs.Prelude.{ℕ, ◌+◌, true, false, List, [], ◌∷◌, take, drop, slice_index, Option, Some, None}
use Rattle.octets.specs.Choice.{pick}
use Rattle.octets.specs.Numbers.{bytes_of}
use Rattle.node.specs.declared.Settings.{Settings}
use Rattle.node.specs.declared.Waiting.{Waiting}
use Rattle.node.specs.declared.Session.{Session}
use Rattle.node.specs.declared.Node.{Node}
use Rattle.laid.specs.Field.{joined, flag_bytes, flag_of, number_at, array_at, held_stored, held_from}

-- settings, clock, highest stamp, waiting request and session
abbrev pub node_size : ℕ
node_size = 546 + 8 + 9 + 25 + 35

-- the highest stamp used: a flag and the stamp, or a flag that is not set and 0 where there is none
unfoldable pub used_bytes : Option ℕ → List ℕ
used_bytes None = joined (flag_bytes false ∷ bytes_of 8 0 ∷ [])
used_bytes (Some n) = joined (flag_bytes true ∷ bytes_of 8 n ∷ [])

-- .. and read again
unfoldable pub used_from : List ℕ → Option ℕ
used_from s = pick (flag_of (slice_index s 0)) (Some (number_at 8 1 s)) None

-- a waiting request: whether one waits, its stamp and its key
unfoldable pub waiting_bytes : Waiting → List ℕ
waiting_bytes w = joined (flag_bytes w.live ∷ bytes_of 8 w.stamp ∷ w.key ∷ [])

-- .. and read again
unfoldable pub waiting_from : List ℕ → Waiting
waiting_from s = record { live = flag_of (slice_index s 0); stamp = number_at 8 1 s; key = array_at 16 9 s }

-- a session: whether one is open, its stamp and key, when it was opened, and its lifetime
unfoldable pub session_bytes : Session → List ℕ
session_bytes v = joined (flag_bytes v.live ∷ bytes_of 8 v.stamp ∷ v.key ∷ bytes_of 8 v.since ∷ bytes_of 2 v.lifetime ∷ [])

-- .. and read again
unfoldable pub session_from : List ℕ → Session
session_from s =
    record {
      live = flag_of (slice_index s 0);
      stamp = number_at 8 1 s;
      key = array_at 16 9 s;
      since = number_at 8 25 s;
      lifetime = number_at 2 33 s;
    }

-- the settings, in the order of their record
unfoldable pub settings_bytes : Settings → List ℕ
settings_bytes v =
    joined (
    bytes_of 4 v.unit
    ∷ bytes_of 4 v.patience
    ∷ held_stored v.password
    ∷ held_stored v.account
    ∷ bytes_of 2 v.kind
    ∷ bytes_of 2 v.network
    ∷ v.address
    ∷ v.router
    ∷ []
    )

-- .. and read again
unfoldable pub settings_from : List ℕ → Settings
settings_from s =
    record {
      unit = number_at 4 0 s;
      patience = number_at 4 4 s;
      password = held_from (take 261 (drop 8 s));
      account = held_from (take 261 (drop 269 s));
      kind = number_at 2 530 s;
      network = number_at 2 532 s;
      address = array_at 6 534 s;
      router = array_at 6 540 s;
    }

-- the whole node
unfoldable pub node_bytes : Node → List ℕ
node_bytes n =
    joined (settings_bytes n.settings ∷ bytes_of 8 n.clock ∷ used_bytes n.used ∷ waiting_bytes n.waiting ∷ session_bytes n.session ∷ [])

-- every byte string is read as a node: bytes that are missing count as 0
unfoldable pub node_from : List ℕ → Node
node_from s =
    record {
      settings = settings_from (take 546 (drop 0 s));
      clock = number_at 8 546 s;
      used = used_from (take 9 (drop 554 s));
      waiting = waiting_from (take 25 (drop 563 s));
      session = session_from (take 35 (drop 588 s));
    }
