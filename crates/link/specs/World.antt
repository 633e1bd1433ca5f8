-- The world of demand 3: any number of nodes, one router, one server, and all that was sent. Every step is the definition that the
-- contract of its call cites, on the message's bytes; nothing else changes a state.
use Rattle.std.specs.Prelude.{ℕ, ◌<◌, ◌^◌, ◌≡◌, List, [], ◌∷◌, ◌++◌, length, take, ◌==◌, Result, Ok, Err}
use Rattle.refusal.specs.declared.Refusal.{Refusal}
use Rattle.octets.specs.Choice.{pick}
use Rattle.refusal.specs.declared.To.{To}
use Rattle.refusal.specs.declared.To.TheVariants.{Nobody, Everyone, Server, Address}
use Rattle.places.specs.declared.state.Router.{Router}
use Rattle.node.specs.declared.Node.{Node}
use Rattle.turn.specs.Outcome.{Step as RouterStep}
use Rattle.router.specs.Beacon.{beaconed}
use Rattle.entering.specs.Request.{requested}
use Rattle.settling.specs.Reply.{replied}
use Rattle.router.specs.Close.{closing, closed}
use Rattle.node.specs.State.{Step as NodeStep}
use Rattle.hearing.specs.Hear.{heard}
use Rattle.node.specs.Answers.{succeeded, failed}
use Rattle.leaving.specs.Leave.{leaving, left}
use Rattle.server.specs.Login.{Step as ServerStep, logged_in}

-- what the types of the calls' parameters hold. 'Clocks and stamps are 64-bit ticks'
pub record Clock : Type 0 where
  pub ticks : ℕ
  pub fits : ticks < 2 ^ 64

-- 'the caller's serial', 16 bits
pub record Serial : Type 0 where
  pub number : ℕ
  pub fits : number < 2 ^ 16

-- 'a 16-byte seed, by value, from its caller'
pub record Seed : Type 0 where
  pub bytes : List ℕ
  pub sixteen : length bytes ≡ 16

-- one of `count` nodes
pub record Member (count : ℕ) : Type 0 where
  pub number : ℕ
  pub there : number < count

-- a message on its way, with its sender and its receiver
pub data Packet : Type 0 where
  -- the router's beacon
  to_everyone : (m : List ℕ) → Packet
  -- of node i, to the router with an address
  to_router : (i : ℕ) (address m : List ℕ) → Packet
  -- of the router, to the node with an address
  to_node : (address m : List ℕ) → Packet
  -- of the router, to the server
  to_server : (m : List ℕ) → Packet
  -- of the server, to the router
  from_server : (m : List ℕ) → Packet

-- the states, and every message that was ever sent, the newest first
pub record World : Type 0 where
  pub nodes : ℕ → Node
  pub router : Router
  pub sent : List Packet

-- what a caller does, and the handing of a message to a call. Each call has its own clock, output and seed; the server is lent both books
pub data Event (count : ℕ) : Type 0 where
  beacon : (now : Clock) (serial : Serial) (out : List ℕ) → Event count
  close : (now : Clock) (to out : List ℕ) → Event count
  leave : (i : Member count) (now : Clock) (out : List ℕ) → Event count
  -- a message reaches node i
  to_heard : (i : Member count) (now : Clock) (seed : Seed) (m out : List ℕ) → Event count
  to_succeeded : (i : Member count) (now : Clock) (m : List ℕ) → Event count
  to_failed : (i : Member count) (now : Clock) (m : List ℕ) → Event count
  to_left : (i : Member count) (now : Clock) (m : List ℕ) → Event count
  -- a message of node i reaches the router
  to_requested : (i : Member count) (now : Clock) (m out : List ℕ) → Event count
  to_closed : (i : Member count) (now : Clock) (m : List ℕ) → Event count
  -- a message of the router reaches the server, and one of the server the router
  to_logged_in : (mill visitors m out : List ℕ) → Event count
  to_replied : (now : Clock) (m out : List ℕ) → Event count

-- what a step wrote becomes a message sent
abbrev pub router_sends : To → List ℕ → List Packet
router_sends Nobody m = []
router_sends Everyone m = to_everyone m ∷ []
router_sends Server m = to_server m ∷ []
router_sends (Address address) m = to_node address m ∷ []

-- a node's step writes to an address alone
abbrev pub node_sends : ℕ → To → List ℕ → List Packet
node_sends i Nobody m = []
node_sends i Everyone m = []
node_sends i Server m = []
node_sends i (Address address) m = to_router i address m ∷ []

-- the server answers the router that asked
abbrev pub server_sends : Result ℕ Refusal → List ℕ → List Packet
server_sends (Ok n) out = from_server (take n out) ∷ []
server_sends (Err why) out = []

-- what a router's step wrote, and to whom
abbrev pub wrote_router : RouterStep → List Packet
wrote_router s = router_sends s.outcome.to (take s.outcome.written s.out)

-- what a node's step wrote
abbrev pub wrote_node : ℕ → NodeStep → List Packet
wrote_node i s = node_sends i s.outcome.to (take s.outcome.written s.out)

-- what the server's step wrote
abbrev pub wrote_server : ServerStep → List Packet
wrote_server s = server_sends s.outcome s.out

-- the nodes after a step of node i
abbrev pub changed : (ℕ → Node) → ℕ → Node → ℕ → Node
changed nodes i n j = pick (j == i) n (nodes j)

-- node i has the state that its step left, and what it wrote is sent
unfoldable pub after_node : World → ℕ → NodeStep → World
after_node w i s = record { nodes = changed w.nodes i s.outcome.state; router = w.router; sent = wrote_node i s ++ w.sent }

-- the same of the router
unfoldable pub after_router : World → RouterStep → World
after_router w s = record { nodes = w.nodes; router = s.outcome.state; sent = wrote_router s ++ w.sent }

-- the server has no state
unfoldable pub after_server : World → ServerStep → World
after_server w s = record { nodes = w.nodes; router = w.router; sent = wrote_server s ++ w.sent }

module _ {count : ℕ} where
  -- one of the nodes
  abbrev pub node_of : World → Member count → Node
  node_of w i = w.nodes i.number

  -- its link address
  abbrev pub address_of : World → Member count → List ℕ
  address_of w i = (node_of w i).settings.address

  -- a node's message comes from its address, and the router's from its IPv4 address
  unfoldable pub step : World → Event count → World
  step w (beacon now serial out) = after_router w (beaconed w.router now.ticks serial.number out)
  step w (close now to out) = after_router w (closing w.router now.ticks to out)
  step w (leave i now out) = after_node w i.number (leaving (node_of w i) now.ticks out)
  step w (to_heard i now seed m out) = after_node w i.number (heard (node_of w i) now.ticks seed.bytes m out)
  step w (to_succeeded i now m) = after_node w i.number (succeeded (node_of w i) now.ticks m)
  step w (to_failed i now m) = after_node w i.number (failed (node_of w i) now.ticks m)
  step w (to_left i now m) = after_node w i.number (left (node_of w i) now.ticks m)
  step w (to_requested i now m out) = after_router w (requested w.router now.ticks (address_of w i) m out)
  step w (to_closed i now m) = after_router w (closed w.router now.ticks (address_of w i) m)
  step w (to_logged_in mill visitors m out) = after_server w (logged_in mill visitors w.router.settings.ipv4 m out)
  step w (to_replied now m out) = after_router w (replied w.router now.ticks m out)

  -- a run is the list of its events, the newest first: what comes after an event in the list is what was before it
  unfoldable pub run : World → List (Event count) → World
  run w [] = w
  run w (e ∷ es) = step (run w es) e
