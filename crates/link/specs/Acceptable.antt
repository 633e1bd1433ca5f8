-- The last sentence of demand 3, in the paper's words ('Steps'): when a request is acceptable and in time, and what its four messages leave.
use Rattle.std.specs.Prelude.{ℕ, ◌-◌, ◌*◌, ◌≤◌, ◌<◌, true, ◌≡◌, ◌⊎◌, List, ◌∷◌, length, Option, Some, None, Ok}
use Rattle.object.specs.declared.family.Family.TheVariants.{Misp, Misauth}
use Rattle.object.specs.Family.{limit_of}
use Rattle.terms.specs.Terms.{lists}
use Rattle.misp.specs.Request.{RequestValues, read_request, request_told}
use Rattle.book.specs.Search.{password_of}
use Rattle.places.specs.declared.state.Router.{Router}
use Rattle.places.specs.State.{lapsed_at, find_of, lowest_free}
use Rattle.turn.specs.Outcome.{place_of}
use Rattle.entering.specs.Request.{repeats_attempt}
use Rattle.link.specs.World.{Clock, Member, to_server, from_server, to_node, World, Event, to_requested, to_logged_in, to_replied, to_succeeded, node_of, address_of, run}
use Rattle.link.specs.Premises.{OfNode}
use Rattle.link.specs.Opened.{Holds}

-- neither 13 nor 14: the place's stamp is below the request's, or the request repeats the waiting attempt; without a place, one is free. (A request whose
-- session is open is not refused either; it gets the success at once, so there are no four messages)
abbrev pub HasRoom : Option ℕ → Router → RequestValues → Type 0
HasRoom (Some i) q v = ((place_of i q).last < v.stamp) ⊎ (repeats_attempt v (place_of i q) ≡ true)
HasRoom None q v = lowest_free q.places < 64

-- the clocks and outputs of the four calls, and the router's clock when the success reaches the node
pub record Calls : Type 0 where
  pub request_now : Clock
  pub request_out : List ℕ
  pub login_out : List ℕ
  pub reply_now : Clock
  pub reply_out : List ℕ
  pub success_now : Clock
  pub router_now : Clock

-- 'acceptable if by the table router and server cannot refuse it, the server's rule accepts it, its node still waits on it, and no answer
-- meets 7 or 20'. Not asked is what the node's own request cannot get wrong (1 to 6, 8, 9, the check value), what the premises give (15, 16, 17,
-- 22, and that setup took the router's position, without which an access request would be 18), and 19, which a known account gives. 12 is `InTime`
pub record Acceptable {count : ℕ} (mill visitors : List ℕ) (w : World) (i : Member count) (request : List ℕ) (v : RequestValues) (c : Calls) : Type 0 where
  pub own : OfNode w i request
  pub reads : request_told request (read_request request) ≡ Ok v
  -- the node still waits on it
  pub waits : (node_of w i).waiting.live ≡ true
  pub stamped : (node_of w i).waiting.stamp ≡ v.stamp
  -- 10, 11, 13 and 14
  pub listed : lists w.router.settings.network v.layers ≡ true
  pub not_ahead : v.stamp ≤ c.request_now.ticks
  pub room : let q = lapsed_at c.request_now.ticks w.router in HasRoom (find_of q.places (address_of w i)) q v
  -- the server's rule: the account is in a book
  pub known : 0 < length (password_of mill visitors v.account)
  -- 7
  pub request_clock : w.router.clock ≤ c.request_now.ticks
  pub reply_clock : c.request_now.ticks ≤ c.reply_now.ticks
  pub success_clock : (node_of w i).clock ≤ c.success_now.ticks
  -- 20
  pub request_output : limit_of Misauth ≤ length c.request_out
  pub login_output : limit_of Misauth ≤ length c.login_out
  pub reply_output : limit_of Misp ≤ length c.reply_out

-- 'in time means that request and accept find clock - stamp at most W, and the success reaches the node before the router's session lapses'
pub record InTime (w : World) (v : RequestValues) (c : Calls) : Type 0 where
  pub request : c.request_now.ticks - v.stamp ≤ w.router.settings.window
  pub accept : c.reply_now.ticks - v.stamp ≤ w.router.settings.window
  pub success : c.router_now.ticks - c.reply_now.ticks ≤ w.router.settings.lifetime * w.router.settings.unit

module _ {count : ℕ} (i : Member count) (request : List ℕ) (c : Calls) (es : List (Event count)) where
  -- the run after each of the four messages, one after the other with nothing between
  abbrev pub after_request : List (Event count)
  after_request = to_requested i c.request_now request c.request_out ∷ es

  -- then the access request reaches the server
  abbrev pub after_login : List ℕ → List ℕ → List ℕ → List (Event count)
  after_login mill visitors access = to_logged_in mill visitors access c.login_out ∷ after_request

  -- then its answer reaches the router
  abbrev pub after_reply : List ℕ → List ℕ → List ℕ → List ℕ → List (Event count)
  after_reply mill visitors access answer = to_replied c.reply_now answer c.reply_out ∷ after_login mill visitors access

  -- then the success reaches the node
  abbrev pub after_success : List ℕ → List ℕ → List ℕ → List ℕ → List ℕ → List (Event count)
  after_success mill visitors access answer success = to_succeeded i c.success_now success ∷ after_reply mill visitors access answer

  -- each of the messages is the one that the step before it sent; in the end both ends are open, with one stamp and one key
  pub record BothOpen (mill visitors : List ℕ) (w : World) (stamp : ℕ) : Type 0 where
    pub access : List ℕ
    pub answer : List ℕ
    pub success : List ℕ
    pub key : List ℕ
    pub asked : (run w after_request).sent ≡ to_server access ∷ (run w es).sent
    pub answered : (run w (after_login mill visitors access)).sent ≡ from_server answer ∷ (run w after_request).sent
    pub granted : (run w (after_reply mill visitors access answer)).sent ≡ to_node (address_of w i) success ∷ (run w (after_login mill visitors access)).sent
    -- the node is open, for the lifetime that the router gives
    pub node_live : (node_of (run w (after_success mill visitors access answer success)) i).session.live ≡ true
    pub node_stamp : (node_of (run w (after_success mill visitors access answer success)) i).session.stamp ≡ stamp
    pub node_key : (node_of (run w (after_success mill visitors access answer success)) i).session.key ≡ key
    pub node_lifetime : (node_of (run w (after_success mill visitors access answer success)) i).session.lifetime ≡ w.router.settings.lifetime
    -- and so is the router, by its clock at that moment; it stored its last clock when the accept came
    pub router_clock : (run w (after_success mill visitors access answer success)).router.clock ≡ c.reply_now.ticks
    pub router_holds : Holds (lapsed_at c.router_now.ticks (run w (after_success mill visitors access answer success)).router) (address_of w i) stamp key
