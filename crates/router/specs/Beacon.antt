-- The router's beacon: 20, 7 (the paper, 'Steps' and the orders).
use Rattle.std.specs.Prelude.{ℕ, List, ◌++◌, None}
use Rattle.refusal.specs.Step.{done, sends}
use Rattle.octets.specs.Numbers.{bytes_of}
use Rattle.object.specs.declared.family.Family.TheVariants.{Misp}
use Rattle.refusal.specs.declared.To.TheVariants.{Everyone}
use Rattle.beacons.specs.Beacon.{BeaconValues, beacon_values, beacon_bytes}
use Rattle.beacons.specs.declared.beacon.Extras.{Extras}
use Rattle.places.specs.declared.state.Settings.{Settings}
use Rattle.places.specs.declared.state.Router.{Router}
use Rattle.places.specs.State.{groups_of}
use Rattle.turn.specs.Outcome.{Step, in_room}

-- 'holds the mandatory objects only': no optional one of a beacon
abbrev pub no_extras : Extras
no_extras = record { position = None; left = None; filter = None; uplink = None; channel = None }

-- 'Its beacon has the clock as stamp, the caller's serial, and types 2 and 3' (DECISIONS, 32)
abbrev pub own_beacon : Settings → ℕ → ℕ → BeaconValues
own_beacon s now serial = beacon_values now (groups_of s) serial s.interval (bytes_of 2 2 ++ bytes_of 2 3) (bytes_of 2 s.network) no_extras

-- the beacon with these fields
unfoldable pub beacon_of : Settings → ℕ → ℕ → List ℕ
beacon_of s now serial = beacon_bytes (own_beacon s now serial)

-- 'the router's beacon 20 and 7'; what it holds is `beacon_of`
unfoldable pub beaconed : Router → ℕ → ℕ → List ℕ → Step
beaconed r now serial out = in_room Misp r now out λ q. sends done q Everyone (beacon_of r.settings now serial) out
