-- What the code's types say of a node: every number is within its width, and every array is whole.
use Rattle.std.specs.Prelude.{Option, Some, None, ℕ}
use mathlib.Core.List.{List}
use mir.Val.{Val}
use Rattle.node.specs.declared.Settings.{Settings}
use Rattle.node.specs.declared.Waiting.{Waiting}
use Rattle.node.specs.declared.Session.{Session}
use Rattle.node.specs.declared.Node.{Node}
use Rattle.node.specs.contracts.Settings as settings_type
use Rattle.std.specs.contracts.option.Option as option_type
use denote.Plain.{UInt}
use mir.Syntax.{w64}
use Rattle.node.specs.contracts.Waiting as waiting_type
use Rattle.node.specs.contracts.Session as session_type
use Rattle.node.specs.contracts.Node as node_type
use Rattle.laid.proofs.TypeLaws.{Typed, held_typed}
use Rattle.storednode.proofs.NodeLaws.{WaitingHeld, SessionHeld, SettingsHeld, UsedHeld, NodeHeld}

pub settings_typed : (v : Settings) (vs : List Val) → Typed settings_type.the_field v vs → SettingsHeld v
settings_typed v vs s =
    let unit = s.1.1 in
    let password = unit.1.1 in
    let kind = password.1.1 in
    let address = kind.1.1 in
    record {
      unit = unit.0.1;
      patience = unit.1.0.1;
      password = held_typed v.password _ password.0;
      account = held_typed v.account _ password.1.0;
      kind = kind.0.1;
      network = kind.1.0.1;
      address = address.0.1.0.1;
      router = address.1.0.1.0.1;
    }

used_typed : (u : Option ℕ) (vs : List Val) → Typed (option_type.the_field (UInt w64)) u vs → UsedHeld u
used_typed None vs s = tt
used_typed (Some n) vs s = s.1.1.1.1.0.1

pub waiting_typed : (w : Waiting) (vs : List Val) → Typed waiting_type.the_field w vs → WaitingHeld w
waiting_typed w vs s = record { stamp = s.1.1.1.0.1; key = s.1.1.1.1.0.1.0.1 }

pub session_typed : (v : Session) (vs : List Val) → Typed session_type.the_field v vs → SessionHeld v
session_typed v vs s =
    let stamp = s.1.1.1 in
    record {
      stamp = stamp.0.1;
      key = stamp.1.0.1.0.1;
      since = stamp.1.1.0.1;
      lifetime = stamp.1.1.1.0.1;
    }

pub node_typed : (n : Node) (vs : List Val) → Typed node_type.the_field n vs → NodeHeld n
node_typed n vs s =
    let used = s.1.1.1.1 in
    record {
      settings = settings_typed n.settings _ s.1.1.0;
      clock = s.1.1.1.0.1;
      used = used_typed n.used _ used.0;
      waiting = waiting_typed n.waiting _ used.1.0;
      session = session_typed n.session _ used.1.1.0;
    }
