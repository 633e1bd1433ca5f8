-- The reports: the taken places, each place, a node's state (docs/REPLAY.md, the table's lines `taken`, `places`, `state I`).
use Rattle.std.specs.Prelude.{ℕ, zero, suc, List, [], ◌++◌, Option, Some, None}
use Rattle.octets.specs.Choice.{pick}
use Rattle.script.specs.Decimal.{decimal_text}
use Rattle.places.specs.declared.place.Attempt.{Attempt}
use Rattle.places.specs.declared.place.Session.{Session}
use Rattle.places.specs.declared.place.Place.{Place}
use Rattle.places.specs.declared.state.Router.{Router}
use Rattle.places.specs.State.{word_of, count_of}
use Rattle.turn.specs.Outcome.{place_of}
use Rattle.node.specs.declared.Waiting.{Waiting}
use Rattle.node.specs.declared.Session.{Session as Open}
use Rattle.node.specs.declared.Node.{Node}
use Rattle.told.specs.Print.{line_end, no_text, next_number, next_bytes}

-- 'attempt (stamp and check value, or `-`)'
unfoldable pub attempt_text : Attempt → List ℕ
attempt_text a = pick a.waiting (next_number a.stamp ++ next_bytes a.check) no_text

-- 'session (stamp, check value, key, since, or `-`)'
unfoldable pub session_text : Session → List ℕ
session_text s = pick s.live (next_number s.stamp ++ next_bytes s.check ++ next_bytes s.key ++ next_number s.since) no_text

-- 'one line for each taken place: number, address, last stamp, attempt .., session'
unfoldable pub place_text : ℕ → Place → List ℕ
place_text i p =
    pick p.taken
    (decimal_text i ++ next_bytes p.address ++ next_number p.last ++ attempt_text p.attempt ++ session_text p.session ++ line_end)
    []

-- the lines of the first n places
unfoldable pub places_text : ℕ → Router → List ℕ
places_text zero r = []
places_text (suc n) r = places_text n r ++ place_text n (place_of n r)

-- 'the word and the count of the taken places'
unfoldable pub taken_text : Router → List ℕ
taken_text r = decimal_text (word_of r.places) ++ next_number (count_of r.places) ++ line_end

-- 'used stamp or `-`'
unfoldable pub used_text : Option ℕ → List ℕ
used_text None = no_text
used_text (Some n) = next_number n

-- 'waiting stamp or `-`'
unfoldable pub waiting_text : Waiting → List ℕ
waiting_text w = pick w.live (next_number w.stamp) no_text

-- 'session (stamp, key, since, lifetime) or `-`'
unfoldable pub open_text : Open → List ℕ
open_text s = pick s.live (next_number s.stamp ++ next_bytes s.key ++ next_number s.since ++ next_number s.lifetime) no_text

-- 'node I: clock, used stamp .., waiting stamp .., session'
unfoldable pub node_text : Node → List ℕ
node_text n = decimal_text n.clock ++ used_text n.used ++ waiting_text n.waiting ++ open_text n.session ++ line_end
