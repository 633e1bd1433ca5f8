-- What an event can do to a node keeps the invariant.
use Rattle.std.specs.Prelude.{ℕ, ◌<◌, ◌^◌, true, ◌≡◌, refl, ◌≢◌, List, [], ◌∷◌, ◌++◌, slice_index, Ok}
use Rattle.std.proofs.Common.{sym, subst, ◌∙◌, inl, inr, ⊎_elim, arith}
use mathlib.Core.List.Memᴰ
use Rattle.octets.proofs.ChoiceLaws.{not_both}
use Rattle.held.specs.Held.{held_bytes}
use Rattle.message.specs.Writing.{is_name}
use Rattle.beacons.specs.Beacon.{BeaconValues, read_beacon, beacon_told}
use Rattle.misp.specs.Request.{RequestValues, read_request, request_told}
use Rattle.misp.specs.Success.{SuccessValues, read_success, success_told}
use Rattle.icv.specs.Icv.{session_key}
use Rattle.places.specs.declared.state.Router.{Router}
use Rattle.node.specs.declared.Node.{Node}
use Rattle.hearing.specs.Hear.{request_for}
use Rattle.message.proofs.ToldLaws.{got_same}
use Rattle.theorems.specs.NodeUsed.{up_to_above}
use Rattle.link.specs.World.{Seed, Member, Packet, to_router, World, Event, changed, node_of, address_of, run}
use Rattle.link.specs.Premises.{ForNode, WasSent, Premises}
use Rattle.link.specs.Can.{Rested, Asked, Entered, NodeCan, rests, leaves, asks, enters, Ending, own_fields, Lawful}
use Rattle.link.specs.OwnLaws.{own_stamp, own_seed}
use Rattle.link.specs.Inv.{Log, on_its_way, Ask, Asking, Own, BehindSuccess, NodeFine, Inv}
use Rattle.link.specs.Keeps.{inv_sent, inv_node, asked_up_to, inv_asks}
use Rattle.link.specs.Past.{past_of}
use Rattle.link.specs.GoodLaws.{clash, GoodAt, NotedAt, same_router, node_fine, its_address, source_small}

-- a failure or a terminating message has no other Code
ending_clash : {A : Type 0} (m : List ℕ) (a : ℕ) → slice_index m 0 ≡ a → a ≢ 8 → a ≢ 9 → Ending m → A
ending_clash m a e eight nine (inl x) = clash m a 8 e x eight
ending_clash m a e eight nine (inr x) = clash m a 9 e x nine

-- a node's request depends on its settings alone
request_settings : (n n' : Node) (seed : List ℕ) (stamp : ℕ) → n.settings ≡ n'.settings
    → request_for n seed stamp ≡ request_for n' seed stamp
unfolding request_for
request_settings n n' seed stamp e = rw e

-- the premises of any run from the same start: of its fields only those are used that speak of the start
module _ (law : Lawful) {count : ℕ} {mill visitors : List ℕ} {w : World} {all : List (Event count)}
    (premises : Premises count mill visitors w all) where
  -- a node in which nothing new stands is fine
  node_rests : {L : Log count} {M : List Packet} {i : ℕ} {n n' : Node} → Rested n n' → NodeFine w L M i n → NodeFine w L M i n'
  node_rests {L} {M} {i} {n} {n'} r f =
      record {
        settings = r.settings ∙ f.settings;
        used = rw r.used f.used;
        waits = λ e. (let same = r.waiting e in rw same (f.waits (rw same at e)));
        held = λ e. (let same = r.session e in rw same (f.held (rw same at e)));
      }

  module _ {L : Log count} {N : ℕ → Node} {r : Router} {M : List Packet} (h : Inv mill visitors w L N r M) (i : Member count) where
    -- the node
    abbrev me : Node
    me = N i.number

    -- its address
    abbrev address : List ℕ
    address = address_of w i

    -- a message that was sent for the node
    abbrev Came : List ℕ → Type 0
    Came m = ForNode (record { nodes = N; router = r; sent = M }) i m

    -- what it reads as a beacon is the router's, so its stamp fits 64 bits
    beacon_stamp : (m : List ℕ) (v : BeaconValues) → beacon_told m (read_beacon m) ≡ Ok v → Came m → v.stamp < 2 ^ 64
    beacon_stamp m v reads (inl c) =
        let b = h.msgs _ c in
        law.beacon_reads w.router premises.none_restarted.router b.now b.serial v (rw b.is at reads)
    beacon_stamp m v reads (inr c) =
        ⊎_elim
        (ending_clash m 1 (law.beacon_code m v reads) (omega arith) (omega arith))
        (λ (s : BehindSuccess w L me.settings.address m).
        clash m 1 4 (law.beacon_code m v reads)
        (rw s.is (law.success_codes w.router.settings me.settings.address s.session)) (omega arith))
        (h.msgs _ c)

    -- what it reads as a success is of a session that was opened for it
    success_opened : (m : List ℕ) (v : SuccessValues) → success_told m (read_success m) ≡ Ok v → Came m
        → (k : List ℕ) × L.opened address v.stamp k
    success_opened m v reads (inl c) =
        let b = h.msgs _ c in
        clash m 4 1 (law.success_code m v reads)
        (rw b.is (law.beacon_codes w.router.settings b.now.ticks b.serial.number)) (omega arith)
    success_opened m v reads (inr c) =
        ⊎_elim
        (ending_clash m 4 (law.success_code m v reads) (omega arith) (omega arith))
        (λ (s : BehindSuccess w L me.settings.address m).
        let o : L.opened address s.session.stamp s.session.key = rw (its_address h i) at s.opened in
        let small = source_small h (h.opened _ _ _ o) in
        let made = premises.none_restarted.router in
        let same = law.success_reads w.router made me.settings.address s.session v small (rw s.is at reads) in
        (s.session.key, rw same o))
        (h.msgs _ c)

    -- its requests with one stamp give one key
    one_key : {s : ℕ} {k k' : List ℕ} → Asking w M i.number s k → Asking w M i.number s k' → k ≡ k'
    one_key a b =
        let m_same = h.once i.number a.m b.m a.v b.v a.ask b.ask (a.stamped ∙ sym b.stamped) in
        let v_same = got_same (rw m_same at a.ask.reads) b.ask.reads in
        sym (rw v_same at a.keyed) ∙ b.keyed

    -- a session that was opened for it with the stamp that it waits with has the key that it waits with
    pub waiting_key : me.waiting.live ≡ true → (k : List ℕ) → L.opened address me.waiting.stamp k → k ≡ me.waiting.key
    waiting_key live k o =
        let x = h.opened _ _ _ o in
        one_key (rw (premises.addresses_distinct x.node i x.its) at x.asking) ((node_fine h i).waits live)

    -- a node that opens is fine
    node_enters : {n' : Node} (m : List ℕ) (v : SuccessValues) → success_told m (read_success m) ≡ Ok v → Came m → Entered me n' v.stamp
        → NodeFine w L M i.number n'
    node_enters {n'} m v reads came e =
        let f = node_fine h i in
        let x = success_opened m v reads came in
        let o : L.opened address me.waiting.stamp x.0 = subst (λ (t : ℕ). L.opened address t x.0) e.stamped x.1 in
        let k = waiting_key e.was_waiting x.0 o in
        record {
          settings = e.settings ∙ f.settings;
          used = rw e.used f.used;
          waits = λ live. not_both live e.waits_no_more;
          held = λ live. rw (e.same_stamp, e.same_key, ← k) o;
        }

    -- a node that asks
    module _ {n' : Node} {seed : Seed} {stamp : ℕ} {ps : List Packet} (small : stamp < 2 ^ 64) (a : Asked i me n' seed stamp ps) where
      -- the node as setup made it
      abbrev n : Node
      n = w.nodes i.number

      -- the request
      abbrev m : List ℕ
      m = request_for n seed.bytes stamp

      -- its fields
      abbrev v : RequestValues
      v = own_fields n seed.bytes stamp

      -- the node was fine
      f : NodeFine w L M i.number me
      f = node_fine h i

      -- its account is a name
      named : is_name (held_bytes n.settings.account) ≡ true
      named = rw f.settings at a.named

      -- the request is read as these fields
      reads : request_told m (read_request m) ≡ Ok v
      reads = law.request_reads n seed stamp small named

      -- its stamp is the beacon's
      stamped : v.stamp ≡ stamp
      stamped = own_stamp n seed.bytes stamp

      -- its stamp is above those of all that the node had sent
      above : (m' : List ℕ) (v' : RequestValues) → Ask w M i.number m' v' → v'.stamp < v.stamp
      above m' v' x = rw stamped (up_to_above v'.stamp stamp me.used (f.used m' v' x) a.above)

      -- it is the node's own
      own : Own w i.number m v
      own = record { seed = seed; stamp = stamp; small = small; named = named; is = refl; fields = refl }

      -- it is all that goes out
      sends : ps ≡ on_its_way w i.number m ∷ []
      sends = a.sends ∙ rw (request_settings me n seed.bytes stamp f.settings, f.settings, premises.its_nodes i)

      -- its seed gives the key that the node waits with
      keyed : session_key (held_bytes n.settings.password) v.seed ≡ n'.waiting.key
      keyed = rw (own_seed n seed.bytes stamp, a.keyed, f.settings)

      -- the node is fine, with that request sent
      asks_fine : NodeFine w L (on_its_way w i.number m ∷ M) i.number n'
      asks_fine =
          record {
            settings = a.settings ∙ f.settings;
            used = λ m' v' x. rw (a.used, ← stamped) (asked_up_to i.number m v reads above m' v' x);
            waits = λ _.
                record {
                  m = m;
                  v = v;
                  ask = record { was = Memᴰ.head refl; reads = reads };
                  stamped = stamped ∙ sym a.waits;
                  keyed = keyed;
                };
            held = λ e. (let same = a.session e in rw same (f.held (rw same at e)));
          }

      -- the request of a node that asks keeps the invariant
      node_asks : Inv mill visitors w L (changed N i.number n') r (ps ++ M)
      node_asks = rw sends (inv_asks i.number m v reads above h n' own asks_fine)

  -- a message with another Code is no request
  no_request : (m : List ℕ) (code : ℕ) → slice_index m 0 ≡ code → 3 ≢ code → {A : Type 0} (v : RequestValues)
      → request_told m (read_request m) ≡ Ok v → A
  no_request m code e n v reads = clash m 3 code (law.request_code m v reads) e n

  module _ (es : List (Event count)) (h₀ : GoodAt mill visitors w es) (e : Event count) (i : Member count) (n' : Node) (ps : List Packet)
      (same : (run w (e ∷ es)).router ≡ (run w es).router) (came : WasSent (run w es) e) where
    -- the invariant, with the event in the past
    noted : NotedAt mill visitors w es e
    noted = same_router es h₀ e same

    -- it holds where the new node is fine
    with_node_law : NodeFine w (past_of w (e ∷ es)) (run w es).sent i.number n'
        → Inv mill visitors w (past_of w (e ∷ es)) (changed (run w es).nodes i.number n') (run w es).router (run w es).sent
    with_node_law = inv_node noted i.number n'

    -- whatever an event can do to a node keeps the invariant
    pub good_node : NodeCan i (node_of (run w es) i) n' e ps
        → Inv mill visitors w (past_of w (e ∷ es)) (changed (run w es).nodes i.number n') (run w es).router (ps ++ (run w es).sent)
    good_node (rests r sends) = rw sends (with_node_law (node_rests r (node_fine noted i)))
    good_node (leaves r m code sends) =
        rw sends
        (inv_sent (with_node_law (node_rests r (node_fine noted i))) (to_router i.number (node_of (run w es) i).settings.router m)
        (λ j router m' v is reads. let m_same : m' ≡ m = cc in no_request m 9 code (omega arith) v (rw m_same at reads))
        (λ v reads. no_request m 9 code (omega arith) v reads))
    good_node (asks now seed m out v is reads a) = node_asks noted i (beacon_stamp noted i m v reads (rw is at came)) a
    good_node (enters now m v is reads x sends) = rw sends (with_node_law (node_enters noted i m v reads (rw is at came) x))
