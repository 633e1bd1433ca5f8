-- What a step of each party can do, and what a message reads as that a step wrote: all that the theorems need of the steps' definitions.
-- `Lawful` gathers these laws. The theorems (GoodLaws to Theorems, and Live, with Must besides) rest on one, unfold no call of a party and
-- import neither Laws nor MustLaws. Laws proves one: what a step can do from what `theorems` says that each call does, what a message reads
-- as from the laws of the messages.
use Rattle.std.specs.Prelude.{ℕ, ◌-◌, ◌≤◌, ◌<◌, ◌^◌, true, false, ◌≡◌, ◌⊎◌, List, [], ◌∷◌, length, slice_index, Some, Ok}
use Rattle.held.specs.Held.{held_bytes}
use Rattle.message.specs.Writing.{is_name}
use Rattle.beacons.specs.Beacon.{BeaconValues, read_beacon, beacon_told}
use Rattle.misp.specs.Request.{RequestValues, request_bytes, read_request, request_told}
use Rattle.misp.specs.Success.{SuccessValues, read_success, success_told}
use Rattle.misauth.specs.AccessRequest.{AccessRequestValues, read_access_request, access_request_told}
use Rattle.misauth.specs.Accept.{AcceptValues, read_accept, accept_told}
use Rattle.icv.specs.Icv.{session_key, masked}
use Rattle.checked.specs.Checked.{no_check, check_for, request_by}
use Rattle.book.specs.Search.{password_of, secret_of}
use Rattle.places.specs.declared.place.Place.{Place}
use Rattle.places.specs.declared.place.Session.{Session}
use Rattle.places.specs.declared.state.Settings.{Settings}
use Rattle.places.specs.declared.state.Router.{Router}
use Rattle.places.specs.State.{lapsed_at}
use Rattle.turn.specs.Outcome.{place_of, with_place}
use Rattle.turn.specs.Writes.{asked_of, success_for}
use Rattle.router.specs.Beacon.{beacon_of, beaconed}
use Rattle.entering.specs.Request.{requested, attempted, placed}
use Rattle.settling.specs.Reply.{replied, settled, opened_by}
use Rattle.router.specs.Close.{closing, closed}
use Rattle.node.specs.declared.Node.{Node}
use Rattle.hearing.specs.Hear.{is_above, request_for, heard}
use Rattle.node.specs.Answers.{succeeded, failed}
use Rattle.leaving.specs.Leave.{leaving, left}
use Rattle.server.specs.Login.{accepts_under, own_accept, accept_of, logged_in}
use Rattle.theorems.specs.RouterPlaceLaws.{Found}
use Rattle.link.specs.World.{Clock, Serial, Seed, Member, Packet, to_everyone, to_router, to_node, to_server, from_server, Event, beacon, close, leave, to_heard, to_succeeded, to_failed, to_left, to_requested, to_closed, to_replied, wrote_router, wrote_node, wrote_server}
use Rattle.link.specs.Premises.{RouterMade}

-- NODES. Nothing new stands in a node: what it waits on and the session that it has open, if any, are those of before
pub record Rested (n n' : Node) : Type 0 where
  pub settings : n'.settings ≡ n.settings
  pub used : n'.used ≡ n.used
  pub waiting : n'.waiting.live ≡ true → n'.waiting ≡ n.waiting
  pub session : n'.session.live ≡ true → n'.session ≡ n.session

-- the node answered a beacon: it waits with the stamp, and the request went out
pub record Asked {count : ℕ} (i : Member count) (n n' : Node) (seed : Seed) (stamp : ℕ) (ps : List Packet) : Type 0 where
  pub above : is_above stamp n.used ≡ true
  pub named : is_name (held_bytes n.settings.account) ≡ true
  pub settings : n'.settings ≡ n.settings
  pub used : n'.used ≡ Some stamp
  pub waits : n'.waiting.stamp ≡ stamp
  pub keyed : n'.waiting.key ≡ session_key (held_bytes n.settings.password) seed.bytes
  pub session : n'.session.live ≡ true → n'.session ≡ n.session
  pub sends : ps ≡ to_router i.number n.settings.router (request_for n seed.bytes stamp) ∷ []

-- the node opened: with the stamp and the key that it waited with
pub record Entered (n n' : Node) (stamp : ℕ) : Type 0 where
  pub settings : n'.settings ≡ n.settings
  pub used : n'.used ≡ n.used
  pub was_waiting : n.waiting.live ≡ true
  pub stamped : stamp ≡ n.waiting.stamp
  pub waits_no_more : n'.waiting.live ≡ false
  pub same_stamp : n'.session.stamp ≡ n.waiting.stamp
  pub same_key : n'.session.key ≡ n.waiting.key

-- what one event can do to a node: nothing new comes in and nothing goes out, it leaves, it asks, or it opens
pub data NodeCan {count : ℕ} (i : Member count) (n n' : Node) (e : Event count) (ps : List Packet) : Type 0 where
  rests : Rested n n' → ps ≡ [] → NodeCan i n n' e ps
  -- a terminating message went out
  leaves : Rested n n' → (m : List ℕ) → slice_index m 0 ≡ 9 → ps ≡ to_router i.number n.settings.router m ∷ [] → NodeCan i n n' e ps
  asks : (now : Clock) (seed : Seed) (m out : List ℕ) (v : BeaconValues) → e ≡ to_heard i now seed m out
      → beacon_told m (read_beacon m) ≡ Ok v
      → Asked i n n' seed v.stamp ps → NodeCan i n n' e ps
  enters : (now : Clock) (m : List ℕ) (v : SuccessValues) → e ≡ to_succeeded i now m → success_told m (read_success m) ≡ Ok v
      → Entered n n' v.stamp → ps ≡ [] → NodeCan i n n' e ps

-- THE ROUTER. A failure, or a terminating message
abbrev pub Ending : List ℕ → Type 0
Ending m = (slice_index m 0 ≡ 8) ⊎ (slice_index m 0 ≡ 9)

-- what it may send in passing: a beacon of its own, or to a node one of these
pub data Plain (r : Router) (ps : List Packet) : Type 0 where
  nothing : ps ≡ [] → Plain r ps
  beacons : (now : Clock) (serial : Serial) → ps ≡ to_everyone (beacon_of r.settings now.ticks serial.number) ∷ [] → Plain r ps
  tells : (address m : List ℕ) → Ending m → ps ≡ to_node address m ∷ [] → Plain r ps

-- what is left of a place: it is taken, and its attempt or its session may have ended
pub record Lessened (p p' : Place) : Type 0 where
  pub taken : p'.taken ≡ true
  pub address : p'.address ≡ p.address
  pub last : p'.last ≡ p.last
  pub attempt : p'.attempt.waiting ≡ true → p'.attempt ≡ p.attempt
  pub session : p'.session.live ≡ true → p'.session ≡ p.session

-- a request came into its place j: it was there already, its node's place took it, or a free place did
pub data Took (q r' : Router) (from : List ℕ) (v : RequestValues) (j : ℕ) : Type 0 where
  repeats : r' ≡ q → Took q r' from v j
  renews : Found q from j → (place_of j q).last < v.stamp
      → r' ≡ with_place j (attempted v (place_of j q)) q → Took q r' from v j
  places : j < 64 → (place_of j q).taken ≡ false → ((h : ℕ) → Found q from h → ⊥)
      → r' ≡ with_place j (placed from v) q → Took q r' from v j

-- the success of the session that place j holds
pub record Said (q : Router) (j : ℕ) (ps : List Packet) : Type 0 where
  pub taken : (place_of j q).taken ≡ true
  pub live : (place_of j q).session.live ≡ true
  pub sends : ps ≡ to_node (place_of j q).address (success_for q.settings (place_of j q).address (place_of j q).session) ∷ []

-- an accept ended the attempt of place j and opened its session
pub record Granted (q r' : Router) (now : ℕ) (j : ℕ) (v : AcceptValues) (ps : List Packet) : Type 0 where
  pub taken : (place_of j q).taken ≡ true
  pub waiting : (place_of j q).attempt.waiting ≡ true
  pub check : v.check ≡ (place_of j q).attempt.check
  pub is : r' ≡ with_place j (settled (place_of j q) (opened_by q (place_of j q) now v)) q
  pub sends : ps ≡ to_node (place_of j q).address (success_for q.settings (place_of j q).address (opened_by q (place_of j q) now v)) ∷ []

-- the event is such an accept
pub record Opening {count : ℕ} (r r' : Router) (e : Event count) (ps : List Packet) : Type 0 where
  pub now : Clock
  pub m : List ℕ
  pub out : List ℕ
  pub v : AcceptValues
  pub j : ℕ
  pub is : e ≡ to_replied now m out
  pub reads : accept_told m (read_accept m) ≡ Ok v
  pub clock : r.clock ≤ now.ticks
  pub granted : Granted (lapsed_at now.ticks r) r' now.ticks j v ps

module _ {count : ℕ} (address : Member count → List ℕ) where
  -- the event is a request that came into its place, and an access request goes out
  pub record Forwarding (r r' : Router) (e : Event count) (ps : List Packet) : Type 0 where
    pub i : Member count
    pub now : Clock
    pub m : List ℕ
    pub out : List ℕ
    pub v : RequestValues
    pub j : ℕ
    pub is : e ≡ to_requested i now m out
    pub reads : request_told m (read_request m) ≡ Ok v
    pub clock : r.clock ≤ now.ticks
    pub not_ahead : v.stamp ≤ now.ticks
    pub not_old : now.ticks - v.stamp ≤ r.settings.window
    pub took : Took (lapsed_at now.ticks r) r' (address i) v j
    pub sends : ps ≡ to_server (asked_of r.settings j (address i) m v) ∷ []

  -- at each call past 20 and 7 the clock is stored and what has lapsed goes; then at most one place changes
  pub data RouterCan (r r' : Router) (e : Event count) (ps : List Packet) : Type 0 where
    stays : r' ≡ r → ps ≡ [] → RouterCan r r' e ps
    lapses : (now : Clock) → r.clock ≤ now.ticks → r' ≡ lapsed_at now.ticks r → Plain r ps → RouterCan r r' e ps
    lessens : (now : Clock) (j : ℕ) (p : Place) → r.clock ≤ now.ticks → (place_of j (lapsed_at now.ticks r)).taken ≡ true
        → Lessened (place_of j (lapsed_at now.ticks r)) p → r' ≡ with_place j p (lapsed_at now.ticks r) → Plain r ps → RouterCan r r' e ps
    -- the same success once more
    says_again : (now : Clock) (j : ℕ) → r.clock ≤ now.ticks → Said (lapsed_at now.ticks r) j ps → r' ≡ lapsed_at now.ticks r
        → RouterCan r r' e ps
    forwards : Forwarding r r' e ps → RouterCan r r' e ps
    opens : Opening r r' e ps → RouterCan r r' e ps

-- THE SERVER. What a login can do: it sends nothing, a reject, or the accept
pub data ServerCan (mill visitors source m : List ℕ) (ps : List Packet) : Type 0 where
  refuses : ps ≡ [] → ServerCan mill visitors source m ps
  rejects : (answer : List ℕ) → slice_index answer 0 ≡ 3 → ps ≡ from_server answer ∷ [] → ServerCan mill visitors source m ps
  grants : (v : AccessRequestValues) → access_request_told m (read_access_request m) ≡ Ok v
      → accepts_under (password_of mill visitors v.account) v ≡ true
      → ps ≡ from_server (accept_of (secret_of mill source) (password_of mill visitors v.account) v) ∷ []
      → ServerCan mill visitors source m ps

-- the fields of the request that a node writes
unfoldable pub own_fields : Node → List ℕ → ℕ → RequestValues
own_fields n seed stamp =
    let s = n.settings in
    let with_check = request_by stamp s.kind (held_bytes s.account) seed s.network in
    with_check (check_for (held_bytes s.password) s.address s.router (request_bytes (with_check no_check)))

-- an access request carries what the request that it was made of carried
pub record OfRequest (j : ℕ) (v : RequestValues) (a : AccessRequestValues) : Type 0 where
  pub identifier : a.identifier ≡ j
  pub account : a.account ≡ v.account
  pub check : a.check ≡ v.check
  pub seed : a.seed ≡ v.seed

-- WHAT THE STEPS KEEP TO
pub record Lawful : Type 0 where
  pub node_leaving : {count : ℕ} (i : Member count) (n : Node) (now : Clock) (out : List ℕ) → let s = leaving n now.ticks out in
      NodeCan i n s.outcome.state (leave i now out) (wrote_node i.number s)
  pub node_heard : {count : ℕ} (i : Member count) (n : Node) (now : Clock) (seed : Seed) (m out : List ℕ) → let s = heard n now.ticks seed.bytes m out in
      NodeCan i n s.outcome.state (to_heard i now seed m out) (wrote_node i.number s)
  pub node_succeeded : {count : ℕ} (i : Member count) (n : Node) (now : Clock) (m : List ℕ) → let s = succeeded n now.ticks m in
      NodeCan i n s.outcome.state (to_succeeded i now m) (wrote_node i.number s)
  pub node_failed : {count : ℕ} (i : Member count) (n : Node) (now : Clock) (m : List ℕ) → let s = failed n now.ticks m in
      NodeCan i n s.outcome.state (to_failed i now m) (wrote_node i.number s)
  pub node_left : {count : ℕ} (i : Member count) (n : Node) (now : Clock) (m : List ℕ) → let s = left n now.ticks m in
      NodeCan i n s.outcome.state (to_left i now m) (wrote_node i.number s)
  pub router_beaconed : {count : ℕ} (address : Member count → List ℕ) (r : Router) (now : Clock) (serial : Serial) (out : List ℕ) →
      let s = beaconed r now.ticks serial.number out in RouterCan address r s.outcome.state (beacon now serial out) (wrote_router s)
  pub router_closing : {count : ℕ} (address : Member count → List ℕ) (r : Router) (now : Clock) (to out : List ℕ) →
      let s = closing r now.ticks to out in RouterCan address r s.outcome.state (close now to out) (wrote_router s)
  pub router_requested : {count : ℕ} (address : Member count → List ℕ) (r : Router) (now : Clock) (i : Member count) (m out : List ℕ) →
      let s = requested r now.ticks (address i) m out in RouterCan address r s.outcome.state (to_requested i now m out) (wrote_router s)
  pub router_closed : {count : ℕ} (address : Member count → List ℕ) (r : Router) (now : Clock) (i : Member count) (m : List ℕ) →
      let s = closed r now.ticks (address i) m in RouterCan address r s.outcome.state (to_closed i now m) (wrote_router s)
  pub router_replied : {count : ℕ} (address : Member count → List ℕ) (r : Router) (now : Clock) (m out : List ℕ) →
      let s = replied r now.ticks m out in RouterCan address r s.outcome.state (to_replied now m out) (wrote_router s)
  pub server_logged_in : (mill visitors source m out : List ℕ)
      → ServerCan mill visitors source m (wrote_server (logged_in mill visitors source m out))
  -- what is read has its Code
  pub request_code : (m : List ℕ) (v : RequestValues) → request_told m (read_request m) ≡ Ok v → slice_index m 0 ≡ 3
  pub success_code : (m : List ℕ) (v : SuccessValues) → success_told m (read_success m) ≡ Ok v → slice_index m 0 ≡ 4
  pub beacon_code : (m : List ℕ) (v : BeaconValues) → beacon_told m (read_beacon m) ≡ Ok v → slice_index m 0 ≡ 1
  pub accept_code : (m : List ℕ) (v : AcceptValues) → accept_told m (read_accept m) ≡ Ok v → slice_index m 0 ≡ 2
  -- what is written is read, and has its Code
  pub beacon_reads : (r : Router) → RouterMade r → (now : Clock) (serial : Serial) (v : BeaconValues) → let m = beacon_of r.settings now.ticks serial.number in
      beacon_told m (read_beacon m) ≡ Ok v → v.stamp < 2 ^ 64
  pub beacon_codes : (s : Settings) (now serial : ℕ) → slice_index (beacon_of s now serial) 0 ≡ 1
  pub success_codes : (s : Settings) (to : List ℕ) (session : Session) → slice_index (success_for s to session) 0 ≡ 4
  pub request_reads : (n : Node) (seed : Seed) (stamp : ℕ) → stamp < 2 ^ 64 → is_name (held_bytes n.settings.account) ≡ true →
      let m = request_for n seed.bytes stamp in request_told m (read_request m) ≡ Ok (own_fields n seed.bytes stamp)
  pub access_reads : (s : Settings) (j : ℕ) (from m : List ℕ) (n : Node) (seed : Seed) (stamp : ℕ)
      → is_name (held_bytes n.settings.account) ≡ true →
      let v = own_fields n seed.bytes stamp in let x = asked_of s j from m v in
      (a : AccessRequestValues) → access_request_told x (read_access_request x) ≡ Ok a → OfRequest j v a
  pub accept_reads : (secret password : List ℕ) (a : AccessRequestValues) → length a.check ≡ 16 → let y = accept_of secret password a in
      accept_told y (read_accept y) ≡ Ok (own_accept secret password a)
  pub success_reads : (r : Router) → RouterMade r → (to : List ℕ) (session : Session) (v : SuccessValues) → session.stamp < 2 ^ 64 →
      let z = success_for r.settings to session in success_told z (read_success z) ≡ Ok v → v.stamp ≡ session.stamp
  pub own_check : (n : Node) (seed : List ℕ) (stamp : ℕ) → length (own_fields n seed stamp).check ≡ 16
  -- a mask put on twice is off again
  pub unmasked : (secret check password seed : List ℕ)
      → masked secret check (masked secret check (session_key password seed)) ≡ session_key password seed
