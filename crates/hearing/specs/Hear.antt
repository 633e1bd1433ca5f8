-- A beacon at a node: 20, 7, 1 to 6, 21, 13, 9, 10 (the paper, 'Steps' and the orders; S of a beacon is reserved).
use Rattle.message.specs.Reading.{by_result}
use Rattle.std.specs.Prelude.{ℕ, ◌-◌, Bool, true, List, nat_le, nat_lt, Option, Some, None}
use Rattle.refusal.specs.Step.{refused_with}
use Rattle.octets.specs.Choice.{pick, both, either, flip}
use Rattle.held.specs.Held.{held_bytes}
use Rattle.refusal.specs.declared.Refusal.TheVariants.{NotExpected, StampUsed, SecurityType, NetworkNumber, OutOfRange}
use Rattle.terms.specs.Terms.{lists}
use Rattle.message.specs.Writing.{is_name}
use Rattle.beacons.specs.Beacon.{BeaconValues, read_beacon, beacon_told}
use Rattle.icv.specs.Icv.{session_key}
use Rattle.checked.specs.Checked.{request_of}
use Rattle.node.specs.declared.Node.{Node}
use Rattle.node.specs.State.{Step, sends, in_room}

-- 'a beacon while open or within P is 21': open, or waiting and the new stamp minus its own is at most P
unfoldable pub engaged : Node → ℕ → Bool
engaged n stamp = either n.session.live (both n.waiting.live (nat_le (stamp - n.waiting.stamp) n.settings.patience))

-- 'a beacon whose stamp is above all it used'
abbrev pub is_above : ℕ → Option ℕ → Bool
is_above stamp None = true
is_above stamp (Some u) = nat_lt u stamp

-- 'a request, S=0, with a 16-byte seed, by value, from its caller': the node's own values, with the beacon's stamp
unfoldable pub request_for : Node → List ℕ → ℕ → List ℕ
request_for n seed stamp =
    request_of (held_bytes n.settings.password) n.settings.address n.settings.router stamp n.settings.kind
    (held_bytes n.settings.account) seed n.settings.network

-- the stamp is used, and the key that the seed gives is kept (DECISIONS, 33)
unfoldable pub waits_for : Node → List ℕ → ℕ → Node
waits_for n seed stamp =
    record {
      settings = n.settings;
      clock = n.clock;
      used = Some stamp;
      waiting = record { live = true; stamp = stamp; key = session_key (held_bytes n.settings.password) seed };
      session = n.session;
    }

-- the request; an account that cannot be written, of a given state, is 18 (DECISIONS, 18)
abbrev pub asking_router : Node → List ℕ → ℕ → List ℕ → Step
asking_router n seed stamp out =
    pick (is_name (held_bytes n.settings.account))
    (sends (waits_for n seed stamp) (request_for n seed stamp) out)
    (refused_with OutOfRange n out)

-- 21, 13, 9, 10, of a beacon that was read
unfoldable pub answering : Node → List ℕ → BeaconValues → List ℕ → Step
answering n seed v out =
    pick (engaged n v.stamp) (refused_with NotExpected n out)
    (pick (flip (is_above v.stamp n.used)) (refused_with StampUsed n out)
    (pick (flip (lists n.settings.kind v.security)) (refused_with SecurityType n out)
    (pick (flip (lists n.settings.network v.layers)) (refused_with NetworkNumber n out)
    (asking_router n seed v.stamp out))))

-- a beacon at a node: 20, 7, then 1 to 6 and the rest
unfoldable pub heard : Node → ℕ → List ℕ → List ℕ → List ℕ → Step
heard n now seed m out =
    in_room n now out λ q.
    by_result (beacon_told m (read_beacon m)) (λ why. refused_with why q out) λ v. answering q seed v out
