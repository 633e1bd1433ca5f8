-- A beacon goes out, and a fresh node that hears it asks.
use Rattle.std.specs.Prelude.{ℕ, ◌≤◌, ◌<◌, true, false, ◌≡◌, refl, length, replicate, None}
use Rattle.std.proofs.Common.{sym, arith}
use Rattle.std.proofs.Math.Path.{ap}
use mathlib.Core.List.{List, [], ◌∷◌, ◌++◌}
use borrow.Author.Tests.{le-ltb}
use Rattle.refusal.specs.Step.{done, sends}
use Rattle.octets.specs.Numbers.{bytes_of}
use Rattle.octets.proofs.ChoiceLaws.{pick_all}
use Rattle.object.specs.declared.family.Family.TheVariants.{Misp}
use Rattle.object.specs.Family.{limit_of}
use Rattle.refusal.specs.declared.To.TheVariants.{Everyone}
use Rattle.held.specs.Held.{held_bytes}
use Rattle.terms.specs.Terms.{lists, takes_type}
use Rattle.terms.proofs.TermsLaws.{listed_one, listed_two}
use Rattle.terms.proofs.TypeLaws.{takes_type_law}
use Rattle.clock.specs.Clock.{is_over}
use Rattle.message.specs.Writing.{is_name}
use Rattle.places.specs.declared.state.Router.{Router}
use Rattle.places.specs.State.{lapsed_at}
use Rattle.router.specs.Beacon.{beacon_of, beaconed}
use Rattle.node.specs.declared.Session.{Session}
use Rattle.node.specs.declared.Node.{Node}
use Rattle.node.specs.State.{Step as NodeStep, sends as node_sends, no_session, session_at, lapsed_at as node_at}
use Rattle.hearing.specs.Hear.{engaged, is_above, request_for, waits_for, answering, heard}
use Rattle.theorems.specs.Alike.{written_is}
use Rattle.link.specs.World.{Clock, Serial, Seed, to_router, wrote_node}
use Rattle.link.specs.Premises.{RouterMade}
use Rattle.link.specs.ReadLaws.{beacon_read}

-- past 20 and 7 the beacon goes out
pub beacon_sends : (r : Router) (now serial : ℕ) (out : List ℕ) → limit_of Misp ≤ length out → r.clock ≤ now
    → beaconed r now serial out ≡ sends done (lapsed_at now r) Everyone (beacon_of r.settings now serial) out
unfolding beaconed
beacon_sends r now serial out output clock = rw (le-ltb (length out) (limit_of Misp) output, le-ltb now r.clock clock)

-- a node that has done nothing yet, and agrees with the router on the terms
pub record Hears (r : Router) (n : Node) (now : ℕ) (out : List ℕ) : Type 0 where
  pub output : limit_of Misp ≤ length out
  pub clock : n.clock ≤ now
  pub not_open : n.session.live ≡ false
  pub not_waiting : n.waiting.live ≡ false
  pub used_nothing : n.used ≡ None
  pub kind : takes_type n.settings.kind ≡ true
  pub network : n.settings.network ≡ r.settings.network
  pub small : n.settings.network < 65536
  pub named : is_name (held_bytes n.settings.account) ≡ true

-- a node that is not open is not open after lapsing
lapsed_closed : (n : Node) (now : ℕ) → n.session.live ≡ false → (node_at now n).session.live ≡ false
unfolding node_at session_at
lapsed_closed n now e =
    pick_all (λ (s : Session). s.live ≡ false) (is_over now n.session.since n.session.lifetime n.settings.unit) no_session n.session (λ _. refl) (λ _. e)

module _ (r : Router) (made : RouterMade r) (n : Node) (now stamp : Clock) (serial : Serial) (seed : Seed) (out : List ℕ) (h : Hears r n now.ticks out) where
  -- the node with what has lapsed gone
  abbrev q : Node
  q = node_at now.ticks n

  -- it is neither open nor waiting
  not_engaged : engaged q stamp.ticks ≡ false
  unfolding engaged node_at
  not_engaged = rw (lapsed_closed n now.ticks h.not_open, h.not_waiting)

  -- the stamp is above all that it used
  above : is_above stamp.ticks q.used ≡ true
  unfolding node_at
  above = rw h.used_nothing

  -- the beacon lists its security type
  lists_kind : lists q.settings.kind (bytes_of 2 2 ++ bytes_of 2 3) ≡ true
  unfolding node_at
  lists_kind = listed_two n.settings.kind 2 3 (omega arith) (omega arith) (takes_type_law n.settings.kind h.kind)

  -- and its network
  lists_network : lists q.settings.network (bytes_of 2 r.settings.network) ≡ true
  unfolding node_at
  lists_network = rw (sym h.network) (listed_one n.settings.network h.small)

  -- its account is a name
  named : is_name (held_bytes q.settings.account) ≡ true
  unfolding node_at
  named = h.named

  -- its answer to the beacon is the request
  hear_sends : let m = beacon_of r.settings stamp.ticks serial.number in
      heard n now.ticks seed.bytes m out ≡ node_sends (waits_for q seed.bytes stamp.ticks) (request_for q seed.bytes stamp.ticks) out
  unfolding heard answering
  hear_sends =
      rw (
        le-ltb (length out) (limit_of Misp) h.output,
        le-ltb now.ticks n.clock h.clock,
        beacon_read r made stamp serial,
        not_engaged,
        above,
        lists_kind,
        lists_network,
        named,
      )

  -- the node waits with the stamp, and its request is on its way
  pub record Heard (i : ℕ) (s : NodeStep) : Type 0 where
    pub settings : s.outcome.state.settings ≡ n.settings
    pub clock : s.outcome.state.clock ≡ now.ticks
    pub waits : s.outcome.state.waiting.live ≡ true
    pub stamped : s.outcome.state.waiting.stamp ≡ stamp.ticks
    pub sends : wrote_node i s ≡ to_router i n.settings.router (request_for n seed.bytes stamp.ticks) ∷ []

  -- that answer leaves the node waiting, with its request on its way
  asked : (i : ℕ) → Heard i (node_sends (waits_for q seed.bytes stamp.ticks) (request_for q seed.bytes stamp.ticks) out)
  unfolding waits_for node_at request_for
  asked i =
      record {
        settings = refl;
        clock = refl;
        waits = refl;
        stamped = refl;
        sends = ap (λ (m : List ℕ). to_router i n.settings.router m ∷ []) (written_is (request_for n seed.bytes stamp.ticks) out);
      }

  -- a fresh node that hears the beacon waits, and its request is on its way
  pub hear_asks : (i : ℕ) → Heard i (heard n now.ticks seed.bytes (beacon_of r.settings stamp.ticks serial.number) out)
  hear_asks i = rw hear_sends (asked i)
