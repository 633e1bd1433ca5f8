-- What the code's types say of a held byte string: its size is within its width, and its array is whole.
use mathlib.Core.List.{List}
use mir.Val.{Val}
use denote.Struct.Field.{Field}
use denote.Shadow.{shadow}
use Rattle.held.specs.declared.Held.{Held}
use Rattle.held.specs.contracts.Held as held_type
use Rattle.laid.specs.Around.{StringHeld}

-- what a proof is told of a value of a type
abbrev pub Typed : (F : Field) → F.Value → List Val → Type 0
Typed F v vs = shadow (F.row.own_val (F.into v) vs)

-- of a held byte string: its size and its array
pub held_typed : (h : Held) (vs : List Val) → Typed held_type.the_field h vs → StringHeld h
held_typed h vs s = record { bytes = s.1.1.0.1.0.1; size = s.1.1.1.0.1 }
