-- The premises of demand 3: a field for each phrase (two for 'secrets matching'), and no other.
use Rattle.std.specs.Prelude.{ℕ, ◌<◌, ◌≡◌, ◌⊎◌, length, Ok}
use mathlib.Core.List.{List, [], ◌∷◌, Memᴰ}
use Rattle.held.specs.Held.{held_bytes}
use Rattle.position.specs.declared.Position.{Position}
use Rattle.misp.specs.Request.{RequestValues, read_request, request_told}
use Rattle.book.specs.Search.{password_of, secret_of}
use Rattle.places.specs.declared.state.Router.{Router}
use Rattle.places.specs.State.{set_up_router}
use Rattle.node.specs.declared.Node.{Node}
use Rattle.node.specs.State.{set_up_node}
use Rattle.link.specs.World.{Member, Packet, to_everyone, to_router, to_node, to_server, from_server, World, Event, beacon, close, leave, to_heard, to_succeeded, to_failed, to_left, to_requested, to_closed, to_logged_in, to_replied, node_of, address_of, run}

-- a node that setup made
pub record NodeMade (n : Node) : Type 0 where
  pub unit : ℕ
  pub patience : ℕ
  pub password : List ℕ
  pub account : List ℕ
  pub kind : ℕ
  pub network : ℕ
  pub address : List ℕ
  pub router : List ℕ
  pub made : set_up_node unit patience password account kind network address router ≡ Ok n

-- the same of a router
pub record RouterMade (r : Router) : Type 0 where
  pub window : ℕ
  pub unit : ℕ
  pub lifetime : ℕ
  pub network : ℕ
  pub address : List ℕ
  pub ipv4 : List ℕ
  pub secret : List ℕ
  pub position : Position
  pub interval : ℕ
  pub groups : List ℕ
  pub made : set_up_router window unit lifetime network address ipv4 secret position interval groups ≡ Ok r

-- nothing was done yet: every party is as setup made it, and nothing was sent
pub record Begins (count : ℕ) (w : World) : Type 0 where
  pub nodes : (i : Member count) → NodeMade (node_of w i)
  pub router : RouterMade w.router
  pub sent : w.sent ≡ []

module _ {count : ℕ} where
  -- the two books that the server is lent at an event are these
  abbrev pub Lent : List ℕ → List ℕ → Event count → Type 0
  Lent mill visitors (beacon now serial out) = Unit {0}
  Lent mill visitors (close now to out) = Unit {0}
  Lent mill visitors (leave i now out) = Unit {0}
  Lent mill visitors (to_heard i now seed m out) = Unit {0}
  Lent mill visitors (to_succeeded i now m) = Unit {0}
  Lent mill visitors (to_failed i now m) = Unit {0}
  Lent mill visitors (to_left i now m) = Unit {0}
  Lent mill visitors (to_requested i now m out) = Unit {0}
  Lent mill visitors (to_closed i now m) = Unit {0}
  Lent mill visitors (to_logged_in mill' visitors' m out) = (mill' ≡ mill) × (visitors' ≡ visitors)
  Lent mill visitors (to_replied now m out) = Unit {0}

  -- a message for node i was sent: to everyone, or to its address
  abbrev pub ForNode : World → Member count → List ℕ → Type 0
  ForNode w i m = Memᴰ (to_everyone m) w.sent ⊎ Memᴰ (to_node (address_of w i) m) w.sent

  -- 'from its sender's address to its receiver', of a message of node i
  abbrev pub OfNode : World → Member count → List ℕ → Type 0
  OfNode w i m = Memᴰ (to_router i.number w.router.settings.address m) w.sent

  -- what an event hands to a call was sent, by that sender to that receiver
  abbrev pub WasSent : World → Event count → Type 0
  WasSent w (beacon now serial out) = Unit {0}
  WasSent w (close now to out) = Unit {0}
  WasSent w (leave i now out) = Unit {0}
  WasSent w (to_heard i now seed m out) = ForNode w i m
  WasSent w (to_succeeded i now m) = ForNode w i m
  WasSent w (to_failed i now m) = ForNode w i m
  WasSent w (to_left i now m) = ForNode w i m
  WasSent w (to_requested i now m out) = OfNode w i m
  WasSent w (to_closed i now m) = OfNode w i m
  WasSent w (to_logged_in mill visitors m out) = Memᴰ (to_server m) w.sent
  WasSent w (to_replied now m out) = Memᴰ (from_server m) w.sent

  -- at every event of a run, of the world just before it
  abbrev pub Always : (World → Event count → Type 0) → World → List (Event count) → Type 0
  Always Q w [] = Unit {0}
  Always Q w (e ∷ es) = Q (run w es) e × Always Q w es

-- a request that was sent, with the node that sent it and its fields
pub record SentRequest (sent : List Packet) : Type 0 where
  pub node : ℕ
  pub router : List ℕ
  pub m : List ℕ
  pub fields : RequestValues
  pub was : Memᴰ (to_router node router m) sent
  pub reads : request_told m (read_request m) ≡ Ok fields

-- no two different requests of these messages carry the same check value: two that carry the same are of one node, with the same bytes
abbrev pub Differ : List Packet → Type 0
Differ sent = (a b : SentRequest sent) → a.fields.check ≡ b.fields.check → (a.node ≡ b.node) × (a.m ≡ b.m)

-- 'Take one router, its nodes and one server, none restarted, addresses distinct, secrets matching, books unchanged. The links may lose,
-- repeat, delay or reorder messages but deliver only what was sent, from its sender's address to its receiver, and no two different
-- requests carry the same check value.' The run is of the events es from the world w on; the server's books are mill and visitors
pub record Premises (count : ℕ) (mill visitors : List ℕ) (w : World) (es : List (Event count)) : Type 0 where
  -- 'one router, its nodes': each node is set with the router's address
  pub its_nodes : (i : Member count) → (node_of w i).settings.router ≡ w.router.settings.address
  -- 'none restarted': the run begins with what setup makes, and only steps change a state
  pub none_restarted : Begins count w
  -- 'addresses distinct'
  pub addresses_distinct : (i j : Member count) → address_of w i ≡ address_of w j → i.number ≡ j.number
  -- 'secrets matching': the router's secret is the mill book's for its IPv4 address ..
  pub secret_matching : secret_of mill w.router.settings.ipv4 ≡ held_bytes w.router.settings.secret
  -- .. and where the books give a node's account a password, it is the node's
  pub passwords_matching : (i : Member count) → let password = password_of mill visitors (held_bytes (node_of w i).settings.account) in
      0 < length password → password ≡ held_bytes (node_of w i).settings.password
  -- 'books unchanged'
  pub books_unchanged : Always (λ _. Lent mill visitors) w es
  -- 'deliver only what was sent, from its sender's address to its receiver'
  pub only_sent : Always WasSent w es
  -- 'no two different requests carry the same check value', of all that were ever sent. A request that is repeated is one request
  pub checks_differ : Differ (run w es).sent
