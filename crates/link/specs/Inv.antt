-- The invariant of a run, over the parties' states, what was sent, and what the run's past says; what holds of messages and of a past
-- holds of more of them.
use Rattle.std.specs.Prelude.{ℕ, ◌≤◌, ◌<◌, ◌^◌, true, ◌≡◌, ◌⊎◌, length, slice_index, Ok}
use Rattle.std.proofs.Common.{sym, subst, inl, inr, ⊎_elim}
use mathlib.Core.List.Memᴰ
use mathlib.Core.List.{List, ◌∷◌, Memᴰ}
use Rattle.held.specs.Held.{held_bytes}
use Rattle.message.specs.Writing.{is_name}
use Rattle.misp.specs.Request.{RequestValues, read_request, request_told}
use Rattle.misauth.specs.AccessRequest.{AccessRequestValues}
use Rattle.icv.specs.Icv.{session_key}
use Rattle.book.specs.Search.{password_of, secret_of}
use Rattle.places.specs.declared.place.Attempt.{Attempt}
use Rattle.places.specs.declared.place.Session.{Session}
use Rattle.places.specs.declared.place.Place.{Place}
use Rattle.places.specs.declared.state.Router.{Router}
use Rattle.turn.specs.Outcome.{place_of}
use Rattle.turn.specs.Writes.{asked_of, success_for}
use Rattle.router.specs.Beacon.{beacon_of}
use Rattle.node.specs.declared.Node.{Node}
use Rattle.hearing.specs.Hear.{request_for}
use Rattle.server.specs.Login.{accepts_under, accept_of}
use Rattle.theorems.specs.RouterPlaceLaws.{Apart}
use Rattle.theorems.specs.RouterKept.{Kept}
use Rattle.theorems.specs.NodeUsed.{UpTo}
use Rattle.link.specs.World.{Clock, Serial, Seed, Member, Packet, to_everyone, to_router, to_node, to_server, from_server, World, address_of}
use Rattle.link.specs.Can.{Ending, own_fields, OfRequest}

-- what the past says: which sessions were opened, which requests arrived with which access request, and which of these the server accepted
pub record Log (count : ℕ) : Type 1 where
  pub opened : (address : List ℕ) (stamp : ℕ) (key : List ℕ) → Type 0
  pub arrived : Member count → (request : List ℕ) → RequestValues → (access : List ℕ) → Type 0
  pub accepted : Member count → (request : List ℕ) → RequestValues → (access : List ℕ) → Type 0

-- nothing that was is forgotten
pub record Grows {count : ℕ} (L L' : Log count) : Type 0 where
  pub opened : (address : List ℕ) (stamp : ℕ) (key : List ℕ) → L.opened address stamp key → L'.opened address stamp key
  pub arrived : (i : Member count) (m : List ℕ) (v : RequestValues) (x : List ℕ) → L.arrived i m v x → L'.arrived i m v x
  pub accepted : (i : Member count) (m : List ℕ) (v : RequestValues) (x : List ℕ) → L.accepted i m v x → L'.accepted i m v x

-- nothing that was sent is forgotten
abbrev pub More : List Packet → List Packet → Type 0
More M M' = (p : Packet) → Memᴰ p M → Memᴰ p M'

-- one more message
pub one_more : {M : List Packet} (p : Packet) → More M (p ∷ M)
one_more p q m = Memᴰ.tail m

-- what holds of one element and of all others holds of all
pub each_cons : {A : Type 0} {x : A} {l : List A} (Q : A → Type 0) → Q x → ((a : A) → Memᴰ a l → Q a) → (a : A) → Memᴰ a (x ∷ l)
    → Q a
each_cons {x = x} Q qx q a m = ⊎_elim (λ (e : a ≡ x). subst Q (sym e) qx) (λ m'. q a m') (Memᴰ.cases_cons m)

-- the message m of node i, on its way to the router
abbrev pub on_its_way : World → ℕ → List ℕ → Packet
on_its_way w i m = to_router i w.router.settings.address m

module _ (w : World) where
  -- among what was sent is m, of node i for the router, a request with these fields
  pub record Ask (M : List Packet) (i : ℕ) (m : List ℕ) (v : RequestValues) : Type 0 where
    pub was : Memᴰ (on_its_way w i m) M
    pub reads : request_told m (read_request m) ≡ Ok v

  -- the node wrote it
  pub record Own (i : ℕ) (m : List ℕ) (v : RequestValues) : Type 0 where
    pub seed : Seed
    pub stamp : ℕ
    pub small : stamp < 2 ^ 64
    pub named : is_name (held_bytes (w.nodes i).settings.account) ≡ true
    pub is : m ≡ request_for (w.nodes i) seed.bytes stamp
    pub fields : v ≡ own_fields (w.nodes i) seed.bytes stamp

  -- node i sent a request with this stamp, whose seed gives this key under the node's password
  pub record Asking (M : List Packet) (i stamp : ℕ) (key : List ℕ) : Type 0 where
    pub m : List ℕ
    pub v : RequestValues
    pub ask : Ask M i m v
    pub stamped : v.stamp ≡ stamp
    pub keyed : session_key (held_bytes (w.nodes i).settings.password) v.seed ≡ key

  -- requests of one node with one stamp have the same bytes
  abbrev pub Once : List Packet → Type 0
  Once M = (i : ℕ) (m m' : List ℕ) (v v' : RequestValues) → Ask M i m v → Ask M i m' v' → v.stamp ≡ v'.stamp → m ≡ m'

module _ (count : ℕ) (w : World) where
  -- a session's request: of the node with this address, with its stamp and its key
  pub record Source (M : List Packet) (address : List ℕ) (stamp : ℕ) (key : List ℕ) : Type 0 where
    pub node : Member count
    pub its : address_of w node ≡ address
    pub asking : Asking w M node.number stamp key

  -- an attempt's request: as a session's with the attempt's stamp and some key, and with the attempt's check value
  pub record Tried (M : List Packet) (address : List ℕ) (a : Attempt) : Type 0 where
    pub key : List ℕ
    pub source : Source M address a.stamp key
    pub checked : source.asking.v.check ≡ a.check

-- WHAT STANDS BEHIND a message that was sent. A beacon: the router wrote it
pub record BehindBeacon (w : World) (m : List ℕ) : Type 0 where
  pub now : Clock
  pub serial : Serial
  pub is : m ≡ beacon_of w.router.settings now.ticks serial.number

module _ {count : ℕ} (w : World) where
  -- a success: of a session that was opened for that address
  pub record BehindSuccess (L : Log count) (address m : List ℕ) : Type 0 where
    pub session : Session
    pub is : m ≡ success_for w.router.settings address session
    pub opened : L.opened address session.stamp session.key

  -- an access request: of a request that arrived
  pub record BehindAccess (L : Log count) (M : List Packet) (x : List ℕ) : Type 0 where
    pub node : Member count
    pub m : List ℕ
    pub v : RequestValues
    pub place : ℕ
    pub ask : Ask w M node.number m v
    pub is : x ≡ asked_of w.router.settings place (address_of w node) m v
    pub arrived : L.arrived node m v x

module _ {count : ℕ} (mill visitors : List ℕ) (w : World) where
  -- an accept: of an access request that the server's rule accepts
  pub record BehindAccept (L : Log count) (M : List Packet) (y : List ℕ) : Type 0 where
    pub node : Member count
    pub m : List ℕ
    pub v : RequestValues
    pub place : ℕ
    pub access : List ℕ
    pub a : AccessRequestValues
    pub ask : Ask w M node.number m v
    pub carries : OfRequest place v a
    pub accepts : accepts_under (password_of mill visitors a.account) a ≡ true
    pub is : y ≡ accept_of (secret_of mill w.router.settings.ipv4) (password_of mill visitors a.account) a
    pub accepted : L.accepted node m v access

  -- what stands behind a message, by its kind: of a node, it wrote what is read as a request; of the server, a reject or an accept
  abbrev pub Behind : Log count → List Packet → Packet → Type 0
  Behind L M (to_everyone m) = BehindBeacon w m
  Behind L M (to_router i router m) = (v : RequestValues) → request_told m (read_request m) ≡ Ok v → Own w i m v
  Behind L M (to_node address m) = Ending m ⊎ BehindSuccess w L address m
  Behind L M (to_server x) = BehindAccess w L M x
  Behind L M (from_server y) = (slice_index y 0 ≡ 3) ⊎ BehindAccept L M y

-- every session that was opened for this address has a lower stamp
abbrev pub Under : {count : ℕ} → Log count → List ℕ → ℕ → Type 0
Under L address stamp = (s : ℕ) (k : List ℕ) → L.opened address s k → s < stamp

module _ {count : ℕ} (w : World) where
  -- a waiting attempt: not above the last stamp of its place, of a request that was sent, and above all that was opened for its address
  pub record AttemptFine (L : Log count) (M : List Packet) (p : Place) : Type 0 where
    pub last : p.attempt.stamp ≤ p.last
    pub tried : Tried count w M p.address p.attempt
    pub under : Under L p.address p.attempt.stamp

  -- a place: an attempt that waits there is as above, and a session that is open there was opened
  pub record PlaceFine (L : Log count) (M : List Packet) (p : Place) : Type 0 where
    pub waits : p.attempt.waiting ≡ true → AttemptFine L M p
    pub held : p.session.live ≡ true → L.opened p.address p.session.stamp p.session.key

  -- a node: what it waits on it sent, what it holds was opened, and it used all that it sent
  pub record NodeFine (L : Log count) (M : List Packet) (i : ℕ) (n : Node) : Type 0 where
    pub settings : n.settings ≡ (w.nodes i).settings
    pub used : (m : List ℕ) (v : RequestValues) → Ask w M i m v → UpTo v.stamp n.used
    pub waits : n.waiting.live ≡ true → Asking w M i n.waiting.stamp n.waiting.key
    pub held : n.session.live ≡ true → L.opened (w.nodes i).settings.address n.session.stamp n.session.key

module _ {count : ℕ} (mill visitors : List ℕ) (w : World) where
  -- what holds after each event of a run
  pub record Inv (L : Log count) (N : ℕ → Node) (r : Router) (M : List Packet) : Type 0 where
    pub router_settings : r.settings ≡ w.router.settings
    pub size : length r.places ≡ 64
    pub nodes : (i : ℕ) → i < count → NodeFine w L M i (N i)
    pub places : (j : ℕ) → (place_of j r).taken ≡ true → PlaceFine w L M (place_of j r)
    pub apart : Apart r
    pub msgs : (p : Packet) → Memᴰ p M → Behind mill visitors w L M p
    pub once : Once w M
    pub opened : (address : List ℕ) (stamp : ℕ) (key : List ℕ) → L.opened address stamp key → Source count w M address stamp key
    -- a session that was opened for an address is not above the last stamp of its place, or that place may be gone: the stamp is too old
    pub kept : (address : List ℕ) (stamp : ℕ) (key : List ℕ) → L.opened address stamp key → Kept r address stamp

-- MORE. What holds of messages and of a past holds of more of them
module _ {M M' : List Packet} (more : More M M') {w : World} where
  -- a request that was sent is still sent
  pub ask_more : {i : ℕ} {m : List ℕ} {v : RequestValues} → Ask w M i m v → Ask w M' i m v
  ask_more a = record { was = more _ a.was; reads = a.reads }

  -- with the stamp and the key that it had
  pub asking_more : {i s : ℕ} {k : List ℕ} → Asking w M i s k → Asking w M' i s k
  asking_more h = record { m = h.m; v = h.v; ask = ask_more h.ask; stamped = h.stamped; keyed = h.keyed }

  -- a session's request is still there
  pub source_more : {count : ℕ} {a : List ℕ} {s : ℕ} {k : List ℕ} → Source count w M a s k → Source count w M' a s k
  source_more h = record { node = h.node; its = h.its; asking = asking_more h.asking }

  -- an attempt's request is still there
  tried_more : {count : ℕ} {a : List ℕ} {t : Attempt} → Tried count w M a t → Tried count w M' a t
  unfolding source_more asking_more
  tried_more h = record { key = h.key; source = source_more h.source; checked = h.checked }

module _ {count : ℕ} {L L' : Log count} (grows : Grows L L') {M M' : List Packet} (more : More M M') where
  -- what stands behind a message still does
  pub behind_more : (mill visitors : List ℕ) (w : World) (p : Packet) → Behind mill visitors w L M p → Behind mill visitors w L' M' p
  behind_more mill visitors w (to_everyone m) h = h
  behind_more mill visitors w (to_router i router m) h = h
  behind_more mill visitors w (to_node address m) h =
      ⊎_elim inl
      (λ (s : BehindSuccess w L address m). inr (record { session = s.session; is = s.is; opened = grows.opened _ _ _ s.opened }))
      h
  behind_more mill visitors w (to_server x) h =
      record {
        node = h.node;
        m = h.m;
        v = h.v;
        place = h.place;
        ask = ask_more more h.ask;
        is = h.is;
        arrived = grows.arrived _ _ _ _ h.arrived;
      }
  behind_more mill visitors w (from_server y) h =
      ⊎_elim inl
      (λ (a : BehindAccept mill visitors w L M y).
      inr (record {
        node = a.node;
        m = a.m;
        v = a.v;
        place = a.place;
        access = a.access;
        a = a.a;
        ask = ask_more more a.ask;
        carries = a.carries;
        accepts = a.accepts;
        is = a.is;
        accepted = grows.accepted _ _ _ _ a.accepted;
      }))
      h

  -- a place is still fine, where no session was opened since for its address
  pub place_more : {w : World} (p : Place) → ((s : ℕ) (k : List ℕ) → L'.opened p.address s k → L.opened p.address s k)
      → PlaceFine w L M p → PlaceFine w L' M' p
  place_more p back h =
      record {
        waits = λ e. (let t = h.waits e in
            record { last = t.last; tried = tried_more more t.tried; under = λ s k o. t.under s k (back s k o) });
        held = λ e. grows.opened _ _ _ (h.held e);
      }
