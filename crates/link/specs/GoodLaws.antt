-- The invariant after a run, and laws that the files on node, router and server share.
use Rattle.std.specs.Prelude.{ℕ, ◌<◌, ◌^◌, ◌≡◌, ◌≢◌, List, ◌∷◌, slice_index, Ok}
use Rattle.std.proofs.Common.{sym, ap, subst, ◌∙◌, ⊎_elim}
use Rattle.held.specs.Held.{held_bytes}
use Rattle.misp.specs.Request.{RequestValues}
use Rattle.misauth.specs.AccessRequest.{AccessRequestValues}
use Rattle.misauth.specs.Accept.{read_accept, accept_told}
use Rattle.places.specs.declared.state.Router.{Router}
use Rattle.node.specs.declared.Node.{Node}
use Rattle.server.specs.Login.{own_accept, accept_of}
use Rattle.link.specs.World.{Member, Packet, World, Event, address_of, run}
use Rattle.link.specs.Opened.{Holds, OpenedAt}
use Rattle.link.specs.Can.{OfRequest, Lawful}
use Rattle.link.specs.HoldsLaws.{AddsNone, opens_none}
use Rattle.link.specs.OwnLaws.{own_stamp, own_account}
use Rattle.link.specs.Inv.{Log, Ask, Own, Source, NodeFine, Inv}
use Rattle.link.specs.Keeps.{inv_log}
use Rattle.link.specs.Past.{past_of, past_grows}

-- a message has one Code: of two different ones anything follows
pub clash : {A : Type 0} (m : List ℕ) (a b : ℕ) → slice_index m 0 ≡ a → slice_index m 0 ≡ b → a ≢ b → A
clash m a b e f n = absurd (n (sym e ∙ f))

module _ {w : World} where
  -- the account of a node's own request is the node's
  pub own_named : {i : ℕ} {m : List ℕ} {v : RequestValues} → Own w i m v → v.account ≡ held_bytes (w.nodes i).settings.account
  own_named {i} o = ap (λ (u : RequestValues). u.account) o.fields ∙ own_account (w.nodes i) o.seed.bytes o.stamp

  -- the accept of a node's own request is read as the fields that the server wrote: its check value has 16 bytes, as the node wrote it
  pub accept_back : Lawful → (secret password : List ℕ) {i j : ℕ} {m : List ℕ} {v : RequestValues} {a : AccessRequestValues}
      → Own w i m v → OfRequest j v a
      → let y = accept_of secret password a in accept_told y (read_accept y) ≡ Ok (own_accept secret password a)
  accept_back law secret password {i} {a = a} o c =
      law.accept_reads secret password a (rw (c.check, o.fields) (law.own_check (w.nodes i) o.seed.bytes o.stamp))

module _ {count : ℕ} (mill visitors : List ℕ) (w : World) where
  -- the invariant after a run
  abbrev pub GoodAt : List (Event count) → Type 0
  GoodAt es = Inv mill visitors w (past_of w es) (run w es).nodes (run w es).router (run w es).sent

  -- the invariant of the state before an event, with that event in the past
  abbrev pub NotedAt : List (Event count) → Event count → Type 0
  NotedAt es e = Inv mill visitors w (past_of w (e ∷ es)) (run w es).nodes (run w es).router (run w es).sent

module _ {count : ℕ} {mill visitors : List ℕ} {w : World} where
  -- where an event adds no session at the router, the invariant holds with the event in the past
  pub added_none : (es : List (Event count)) → GoodAt mill visitors w es → (e : Event count)
      → AddsNone (run w es).router (run w (e ∷ es)).router → NotedAt mill visitors w es e
  added_none es h e none =
      inv_log (past_grows w es e) (λ a s k x. ⊎_elim (λ (o : OpenedAt w a s k es e). opens_none none o) (λ y. y) x) h

  -- so it does where the event leaves the router as it was
  pub same_router : (es : List (Event count)) → GoodAt mill visitors w es → (e : Event count) → (run w (e ∷ es)).router ≡ (run w es).router
      → NotedAt mill visitors w es e
  same_router es h e same = added_none es h e (λ a s k x. rw same at x)

module _ {count : ℕ} {mill visitors : List ℕ} {w : World} {L : Log count} {N : ℕ → Node} {r : Router} {M : List Packet}
    (h : Inv mill visitors w L N r M) where
  -- each of the nodes is fine
  pub node_fine : (i : Member count) → NodeFine w L M i.number (N i.number)
  node_fine i = h.nodes i.number i.there

  -- a node's address is the one that setup gave it
  pub its_address : (i : Member count) → (N i.number).settings.address ≡ address_of w i
  its_address i = ap (λ s. s.address) (node_fine i).settings

  -- a session that the router holds was opened
  pub held_opened : {a : List ℕ} {s : ℕ} {k : List ℕ} → Holds r a s k → L.opened a s k
  held_opened x = let g = x.held in rw (g.its, g.stamped, g.keyed) at ((h.places x.place g.taken).held g.live)

  -- a request that was sent is its node's own
  pub own_of : {i : ℕ} {m : List ℕ} {v : RequestValues} → Ask w M i m v → Own w i m v
  own_of {v = v} a = h.msgs _ a.was v a.reads

  -- the stamp of a session that was opened fits 64 bits: a node wrote it
  pub source_small : {a : List ℕ} {s : ℕ} {k : List ℕ} → Source count w M a s k → s < 2 ^ 64
  source_small x =
      let o = own_of x.asking.ask in
      subst (λ (n : ℕ). n < 2 ^ 64) x.asking.stamped (rw (o.fields, own_stamp (w.nodes _) o.seed.bytes o.stamp) o.small)
