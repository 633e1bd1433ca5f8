-- The state of a node (the paper, 'Steps': 'The node is set with ..', 'An open node lapses like the router's session').
use Rattle.std.specs.Prelude.{ℕ, Bool, false, List, [], length, replicate, nat_le, nat_lt, Result, Ok, Err, None}
use Rattle.refusal.specs.declared.Outcome.{Outcome}
use Rattle.refusal.specs.Step.{done}
use Rattle.octets.specs.Choice.{pick, both}
use Rattle.octets.specs.Range.{within}
use Rattle.held.specs.Held.{held_of}
use Rattle.object.specs.declared.family.Family.TheVariants.{Misp}
use Rattle.object.specs.Family.{is_small}
use Rattle.terms.specs.Terms.{takes_type}
use Rattle.clock.specs.Clock.{is_over}
use Rattle.refusal.specs.declared.Refusal.{Refusal}
use Rattle.refusal.specs.declared.Refusal.TheVariants.{SmallOutput, ClockBack, OutOfRange}
use Rattle.refusal.specs.declared.To.TheVariants.{Address}
use Rattle.refusal.specs.Step.{StepOf, writes, refused_with}
use Rattle.node.specs.declared.Settings.{Settings}
use Rattle.node.specs.declared.Waiting.{Waiting}
use Rattle.node.specs.declared.Session.{Session}
use Rattle.node.specs.declared.Node.{Node}

-- what a node's call hands back, and every byte of the lent buffer (the paper, 'How much the contracts say')
abbrev pub Step : Type 0
Step = StepOf (Outcome Node)

-- a message of so many bytes goes to the node's router
abbrev pub sent : Node → ℕ → Outcome Node
sent n written = record { answer = done; state = n; written = written; to = Address n.settings.router }

-- a message is written, for the node's router
abbrev pub sends : Node → List ℕ → List ℕ → Step
sends n message out = writes (sent n (length message)) message out

-- no request is waited on
abbrev pub no_waiting : Waiting
no_waiting = record { live = false; stamp = 0; key = replicate 16 0 }

-- not open
abbrev pub no_session : Session
no_session = record { live = false; stamp = 0; key = replicate 16 0; since = 0; lifetime = 0 }

-- 'An open node lapses like the router's session, by its own clock'
unfoldable pub session_at : ℕ → ℕ → Session → Session
session_at now unit s = pick (is_over now s.since s.lifetime unit) no_session s

-- the clock is stored, and what has lapsed goes
unfoldable pub lapsed_at : ℕ → Node → Node
lapsed_at now n =
    record {
      settings = n.settings;
      clock = now;
      used = n.used;
      waiting = n.waiting;
      session = session_at now n.settings.unit n.session;
    }

-- 7; past it 'the clock .. is stored, and what has lapsed goes'
abbrev pub clocked : Node → ℕ → List ℕ → (Node → Step) → Step
clocked n now out go = pick (nat_lt now n.clock) (refused_with ClockBack n out) (go (lapsed_at now n))

-- 20, then 7, of a call that can write
abbrev pub in_room : Node → ℕ → List ℕ → (Node → Step) → Step
in_room n now out go = pick (is_small Misp out) (refused_with SmallOutput n out) (clocked n now out go)

-- the same node with another request waiting
unfoldable pub with_waiting : Waiting → Node → Node
with_waiting w n = record { settings = n.settings; clock = n.clock; used = n.used; waiting = w; session = n.session }

-- the same node with another session
unfoldable pub with_session : Session → Node → Node
with_session s n = record { settings = n.settings; clock = n.clock; used = n.used; waiting = n.waiting; session = s }

-- the fresh node: clock 0 ('0 when fresh'), no stamp used (DECISIONS, 12), neither waiting nor open
abbrev pub fresh_node : Settings → Node
fresh_node s = record { settings = s; clock = 0; used = None; waiting = no_waiting; session = no_session }

-- U and P are 1 to 2^32-1; a password and an account of 1 to 253 bytes; type 2 or 3; a network number of 16 bits (DECISIONS, 30)
unfoldable pub settings_in_range : ℕ → ℕ → List ℕ → List ℕ → ℕ → ℕ → Bool
settings_in_range u p password account kind network =
    both (within 1 4294967295 u) (both (within 1 4294967295 p) (both (within 1 253 (length password))
    (both (within 1 253 (length account)) (both (takes_type kind) (nat_le network 65535)))))

-- the settings of a node that is set up
abbrev pub settings_of : ℕ → ℕ → List ℕ → List ℕ → ℕ → ℕ → List ℕ → List ℕ → Settings
settings_of u p password account kind network address router =
    record {
      unit = u;
      patience = p;
      password = held_of password;
      account = held_of account;
      kind = kind;
      network = network;
      address = address;
      router = router;
    }

-- setup meets only 18: 'nothing is made'
unfoldable pub set_up_node : ℕ → ℕ → List ℕ → List ℕ → ℕ → ℕ → List ℕ → List ℕ → Result Node Refusal
set_up_node u p password account kind network address router =
    pick (settings_in_range u p password account kind network)
    (Ok (fresh_node (settings_of u p password account kind network address router)))
    (Err OutOfRange)
