-- What the steps must do with the four messages of an acceptable request: all that the last sentence of demand 3 needs of them besides Can.
use Rattle.std.specs.Prelude.{ℕ, ◌≤◌, ◌<◌, ◌^◌, true, ◌≡◌, List, [], ◌∷◌, length}
use Rattle.object.specs.declared.family.Family.TheVariants.{Misp, Misauth}
use Rattle.object.specs.Family.{limit_of}
use Rattle.held.specs.Held.{held_bytes}
use Rattle.terms.specs.Terms.{takes_type}
use Rattle.message.specs.Writing.{is_name}
use Rattle.misp.specs.Request.{RequestValues}
use Rattle.misauth.specs.AccessRequest.{AccessRequestValues}
use Rattle.book.specs.Search.{password_of, secret_of}
use Rattle.places.specs.declared.place.Session.{Session}
use Rattle.places.specs.declared.state.Settings.{Settings}
use Rattle.places.specs.declared.state.Router.{Router}
use Rattle.places.specs.State.{lapsed_at, find_of}
use Rattle.turn.specs.Outcome.{Step as RouterStep, place_of}
use Rattle.turn.specs.Writes.{asked_of, success_for}
use Rattle.entering.specs.Request.{requested}
use Rattle.settling.specs.Reply.{replied}
use Rattle.node.specs.declared.Node.{Node}
use Rattle.hearing.specs.Hear.{request_for}
use Rattle.node.specs.Answers.{succeeded}
use Rattle.server.specs.Login.{own_accept, accept_of, logged_in}
use Rattle.theorems.specs.RouterPlaceLaws.{Found}
use Rattle.theorems.specs.RouterArrivals.{Arrives, Waits}
use Rattle.link.specs.World.{Seed, to_server, from_server, wrote_router, wrote_server}
use Rattle.link.specs.Premises.{RouterMade}
use Rattle.link.specs.Acceptable.{HasRoom}
use Rattle.link.specs.Can.{Granted, own_fields, OfRequest}

-- the router: the request waits in its place, the clock is stored, and its access request went out
pub record Forwards (r : Router) (now : ℕ) (from m : List ℕ) (v : RequestValues) (s : RouterStep) : Type 0 where
  pub place : ℕ
  pub waits : Waits s.outcome.state from v place
  pub clock : s.outcome.state.clock ≡ now
  pub sends : wrote_router s ≡ to_server (asked_of r.settings place from m v) ∷ []

-- a request that the table does not refuse
pub record Unrefused (r : Router) (now : ℕ) (from m out : List ℕ) (v : RequestValues) : Type 0 where
  pub size : length r.places ≡ 64
  pub arrives : Arrives r now m out v
  pub room : HasRoom (find_of (lapsed_at now r).places from) (lapsed_at now r) v
  -- no place of the node's whose last stamp is below this one holds a session with it
  pub unopened : (j : ℕ) → Found (lapsed_at now r) from j → let p = place_of j (lapsed_at now r) in
      p.last < v.stamp → p.session.live ≡ true → p.session.stamp ≡ v.stamp → ⊥

-- the server: it accepted the access request
pub record Accepts (mill visitors source : List ℕ) (j : ℕ) (v : RequestValues) (x out : List ℕ) : Type 0 where
  pub a : AccessRequestValues
  pub carries : OfRequest j v a
  pub sends : wrote_server (logged_in mill visitors source x out) ≡ from_server (accept_of (secret_of mill source) (password_of mill visitors a.account) a) ∷ []

-- a node that may log in through the router with these settings, and an output that is large enough for the server's answer
pub record MayLogIn (mill visitors : List ℕ) (s : Settings) (n : Node) (out : List ℕ) : Type 0 where
  pub named : is_name (held_bytes n.settings.account) ≡ true
  pub kind : takes_type n.settings.kind ≡ true
  pub its_router : n.settings.router ≡ s.address
  pub secret : secret_of mill s.ipv4 ≡ held_bytes s.secret
  pub secret_there : 0 < length (held_bytes s.secret)
  pub password : password_of mill visitors (held_bytes n.settings.account) ≡ held_bytes n.settings.password
  pub password_there : 0 < length (password_of mill visitors (held_bytes n.settings.account))
  pub output : limit_of Misauth ≤ length out

-- the node: it is open, with this stamp, lifetime and key
pub record NowOpen (stamp lifetime : ℕ) (key : List ℕ) (n : Node) : Type 0 where
  pub live : n.session.live ≡ true
  pub stamped : n.session.stamp ≡ stamp
  pub keyed : n.session.key ≡ key
  pub lasts : n.session.lifetime ≡ lifetime

-- a node that waits for a success of this session, from the router with this address
pub record Expects (n : Node) (now : ℕ) (router : List ℕ) (session : Session) : Type 0 where
  pub clock : n.clock ≤ now
  pub waits : n.waiting.live ≡ true
  pub stamped : session.stamp ≡ n.waiting.stamp
  pub keyed : session.key ≡ n.waiting.key
  pub its_router : n.settings.router ≡ router

-- what the last sentence of demand 3 needs of the four steps
pub record Must : Type 0 where
  pub must_request : (r : Router) (now : ℕ) (from m out : List ℕ) (v : RequestValues) → Unrefused r now from m out v
      → Forwards r now from m v (requested r now from m out)
  pub must_login : (mill visitors : List ℕ) (s : Settings) (j : ℕ) (n : Node) (seed : Seed) (stamp : ℕ) (out : List ℕ) → stamp < 2 ^ 64 →
      let m = request_for n seed.bytes stamp in let v = own_fields n seed.bytes stamp in
      MayLogIn mill visitors s n out → Accepts mill visitors s.ipv4 j v (asked_of s j n.settings.address m v) out
  pub must_reply : (r : Router) (now : ℕ) (out password : List ℕ) (a : AccessRequestValues) → length a.check ≡ 16 → a.identifier < 64
      → limit_of Misp ≤ length out → r.clock ≤ now →
      let q = lapsed_at now r in let secret = held_bytes r.settings.secret in let s = replied r now (accept_of secret password a) out in
      (place_of a.identifier q).taken ≡ true → (place_of a.identifier q).attempt.waiting ≡ true → a.check ≡ (place_of a.identifier q).attempt.check
      → Granted q s.outcome.state now a.identifier (own_accept secret password a) (wrote_router s)
  pub must_success : (r : Router) → RouterMade r → (n : Node) (now : ℕ) (session : Session) → session.stamp < 2 ^ 64
      → Expects n now r.settings.address session
      → NowOpen session.stamp r.settings.lifetime session.key
      (succeeded n now (success_for r.settings n.settings.address session)).outcome.state
