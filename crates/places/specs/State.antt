-- The state of a router (the paper, 'Steps').
use Rattle.std.specs.Prelude.{ℕ, suc, ◌+◌, ◌*◌, ◌/◌, ◌%◌, Bool, List, [], ◌∷◌, map, length, take, replicate, pos, nat_le, ◌==◌, Option, Result, Ok, Err, Some, None}
use Rattle.octets.specs.Choice.{pick, both, bit_of}
use Rattle.octets.specs.Range.{within}
use Rattle.octets.specs.Same.{same_bytes}
use Rattle.octets.specs.Put.{fitted}
use Rattle.held.specs.Held.{held_of}
use Rattle.position.specs.declared.Position.{Position}
use Rattle.position.specs.Position.{in_range}
use Rattle.refusal.specs.declared.Refusal.{Refusal}
use Rattle.refusal.specs.declared.Refusal.TheVariants.{OutOfRange}
use Rattle.places.specs.declared.place.Place.{Place}
use Rattle.places.specs.declared.state.Settings.{Settings}
use Rattle.places.specs.declared.state.Router.{Router}
use Rattle.places.specs.declared.state.Report.{Report}
use Rattle.places.specs.Place.{fresh_place, place_at}

-- a stored number of groups past the array counts as the array's
unfoldable pub groups_of : Settings → List ℕ
groups_of s = take (4 * s.grouped) s.groups

-- the clock is stored, and what has lapsed goes
unfoldable pub lapsed_at : ℕ → Router → Router
lapsed_at now r =
    record {
      settings = r.settings;
      clock = now;
      places = map (place_at now r.settings.window r.settings.lifetime r.settings.unit) r.places;
    }

-- a place that is taken for an address
abbrev pub is_for : List ℕ → Place → Bool
is_for address p = both p.taken (same_bytes p.address address)

-- the lowest place that is taken for an address (DECISIONS, 18), of a list whose first has the number i
unfoldable pub find_from : ℕ → List Place → List ℕ → Option ℕ
find_from i [] address = None
find_from i (p ∷ ps) address = pick (is_for address p) (Some i) (find_from (i + 1) ps address)

-- the place of an address ('one per node address'), of all
abbrev pub find_of : List Place → List ℕ → Option ℕ
find_of ps address = find_from 0 ps address

-- 'The taken places are reported as one 64-bit word, place 0 lowest'
unfoldable pub word_of : List Place → ℕ
word_of [] = 0
word_of (p ∷ ps) = word_of ps * 2 + bit_of p.taken

-- 'and the number of ones'
unfoldable pub count_of : List Place → ℕ
count_of [] = 0
count_of (p ∷ ps) = bit_of p.taken + count_of ps

-- the report: the word and the number of ones
abbrev pub report_of : List Place → Report
report_of ps = record { word = word_of ps; count = count_of ps }

-- the lowest free place; the number of places where all are taken
unfoldable pub lowest_free : List Place → ℕ
lowest_free [] = 0
lowest_free (p ∷ ps) = pick p.taken (suc (lowest_free ps)) 0

-- window W and ticks per lifetime unit U, each 1 to 2^32-1; lifetime L, 1 to 65,535; the network number and the beacon interval have 16 bits (DECISIONS, 30)
unfoldable pub numbers_in_range : ℕ → ℕ → ℕ → ℕ → ℕ → Bool
numbers_in_range w u l network interval =
    both (within 1 4294967295 w) (both (within 1 4294967295 u) (both (within 1 65535 l) (both (nat_le network 65535) (nat_le interval 65535))))

-- a secret of 1 to 253 bytes, at most 16 groups of four bytes, whole ones (DECISIONS, 30)
unfoldable pub strings_in_range : List ℕ → List ℕ → Bool
strings_in_range secret groups = both (within 1 253 (length secret)) (both (nat_le (length groups) 64) ((length groups % 4) == 0))

-- 18 where this fails; a position is in range where a message can say it (DECISIONS, 19)
unfoldable pub settings_in_range : ℕ → ℕ → ℕ → ℕ → List ℕ → Position → ℕ → List ℕ → Bool
settings_in_range w u l network secret position interval groups =
    both (numbers_in_range w u l network interval) (both (in_range position) (strings_in_range secret groups))

-- no latitude, no longitude
abbrev pub no_position : Position
no_position = record { latitude = None; longitude = None; sea = pos 0; land = pos 0 }

-- the settings of a router that is set up
unfoldable pub settings_of : ℕ → ℕ → ℕ → ℕ → List ℕ → List ℕ → List ℕ → Position → ℕ → List ℕ → Settings
settings_of w u l network address ipv4 secret position interval groups =
    record {
      window = w;
      unit = u;
      lifetime = l;
      network = network;
      address = address;
      ipv4 = ipv4;
      secret = held_of secret;
      position = position;
      interval = interval;
      groups = fitted 64 groups;
      grouped = length groups / 4;
    }

-- '(0 when fresh)': the clock, and 64 fresh places
unfoldable pub fresh_router : Settings → Router
fresh_router s = record { settings = s; clock = 0; places = replicate 64 fresh_place }

-- setup meets only 18: 'nothing is made'
unfoldable pub set_up_router : ℕ → ℕ → ℕ → ℕ → List ℕ → List ℕ → List ℕ → Position → ℕ → List ℕ → Result Router Refusal
set_up_router w u l network address ipv4 secret position interval groups =
    pick (settings_in_range w u l network secret position interval groups)
    (Ok (fresh_router (settings_of w u l network address ipv4 secret position interval groups)))
    (Err OutOfRange)
