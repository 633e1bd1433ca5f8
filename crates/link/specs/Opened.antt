-- 'Opened', 'accepted' and 'earlier', read off a run: from the router's places before and after a step, from what a step sent, and from
-- the place of an event in the run.
use Rattle.std.specs.Prelude.{ℕ, ◌-◌, ◌≤◌, true, ◌≡◌, List, ◌∷◌, ◌++◌, Ok}
use Rattle.held.specs.Held.{held_bytes}
use Rattle.misp.specs.Request.{RequestValues, read_request, request_told}
use Rattle.misauth.specs.Accept.{AcceptValues, read_accept, accept_told}
use Rattle.icv.specs.Icv.{session_key}
use Rattle.places.specs.declared.place.Place.{Place}
use Rattle.places.specs.declared.state.Router.{Router}
use Rattle.turn.specs.Outcome.{place_of}
use Rattle.link.specs.World.{Clock, Member, to_server, from_server, World, Event, to_requested, to_logged_in, node_of, address_of, run}
use Rattle.link.specs.Premises.{OfNode}

-- a place of this address holds open a session with this stamp and key
pub record HeldIn (p : Place) (address : List ℕ) (stamp : ℕ) (key : List ℕ) : Type 0 where
  pub taken : p.taken ≡ true
  pub its : p.address ≡ address
  pub live : p.session.live ≡ true
  pub stamped : p.session.stamp ≡ stamp
  pub keyed : p.session.key ≡ key

-- the router holds it, in one of its places
pub record Holds (r : Router) (address : List ℕ) (stamp : ℕ) (key : List ℕ) : Type 0 where
  pub place : ℕ
  pub held : HeldIn (place_of place r) address stamp key

-- between two states the router opened a session: before it held none with this stamp, after it holds this one. (No session that it holds comes
-- about otherwise, as by another key for a stamp that it held: `gauge` in Auditor)
pub record Opens (before after : Router) (address : List ℕ) (stamp : ℕ) (key : List ℕ) : Type 0 where
  pub not_before : (k : List ℕ) → Holds before address stamp k → ⊥
  pub held_after : Holds after address stamp key

module _ {count : ℕ} where
  -- at some event of a run: of that event, and of the run before it
  pub record Earlier (es : List (Event count)) (Q : List (Event count) → Event count → Type 0) : Type 0 where
    pub later : List (Event count)
    pub event : Event count
    pub before : List (Event count)
    pub place : es ≡ later ++ event ∷ before
    pub here : Q before event

  module _ (w : World) where
    -- the event opened a session
    abbrev pub OpenedAt : List ℕ → ℕ → List ℕ → List (Event count) → Event count → Type 0
    OpenedAt address stamp key before e = Opens (run w before).router (run w (e ∷ before)).router address stamp key

    -- a request that node i itself sent reached the router, fresh; the router sent the server an access request for it
    pub record Arrived (i : Member count) (request : List ℕ) (fields : RequestValues) (access : List ℕ) (before : List (Event count)) (e : Event count) : Type 0 where
      pub now : Clock
      pub out : List ℕ
      pub is : e ≡ to_requested i now request out
      pub own : OfNode (run w before) i request
      pub reads : request_told request (read_request request) ≡ Ok fields
      pub not_ahead : fields.stamp ≤ now.ticks
      pub not_old : now.ticks - fields.stamp ≤ w.router.settings.window
      pub asked : (run w (e ∷ before)).sent ≡ to_server access ∷ (run w before).sent

    -- an access request reached the server, and it answered with an accept, for this check value
    pub record Accepted (access check : List ℕ) (before : List (Event count)) (e : Event count) : Type 0 where
      pub mill : List ℕ
      pub visitors : List ℕ
      pub out : List ℕ
      pub is : e ≡ to_logged_in mill visitors access out
      pub answer : List ℕ
      pub answered : (run w (e ∷ before)).sent ≡ from_server answer ∷ (run w before).sent
      pub fields : AcceptValues
      pub reads : accept_told answer (read_accept answer) ≡ Ok fields
      pub its_check : fields.check ≡ check

    -- a session rests on what was before it: the node with this address had sent a request with this stamp and its own account, whose seed
    -- gives this key; it reached the router fresh, and after that the server accepted it
    pub record Rests (before : List (Event count)) (address : List ℕ) (stamp : ℕ) (key : List ℕ) : Type 0 where
      pub node : Member count
      pub its : address_of w node ≡ address
      pub request : List ℕ
      pub fields : RequestValues
      pub stamped : fields.stamp ≡ stamp
      pub named : fields.account ≡ held_bytes (node_of w node).settings.account
      pub keyed : session_key (held_bytes (node_of w node).settings.password) fields.seed ≡ key
      pub access : List ℕ
      pub accepted : Earlier before (λ earlier e. Accepted access fields.check earlier e × Earlier earlier (Arrived node request fields access))
