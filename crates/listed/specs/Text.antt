-- What `read` and `readauth` print (docs/REPLAY.md: 'the bare reader of its code: `0 CODE S TYPE=VALUE ..`, `0 CODE IDENTIFIER TYPE=VALUE ..`, or the
-- refusal number alone').
use Rattle.std.specs.Prelude.{ℕ, List, [], ◌∷◌, ◌++◌, Result, Ok, Err}
use Rattle.refusal.specs.declared.Refusal.{Refusal}
use Rattle.refusal.specs.declared.Refusal.TheVariants.{OtherCode}
use Rattle.refusal.specs.Table.{refusal_number}
use Rattle.message.specs.Writing.{Object}
use Rattle.script.specs.Decimal.{decimal_text}
use Rattle.script.specs.Hex.{hexed}
use Rattle.told.specs.Print.{line_end, next_number}

-- 'or the refusal number alone'
unfoldable pub refusal_text : Refusal → List ℕ
refusal_text why = decimal_text (refusal_number why) ++ line_end

-- a Code that no reader takes: 1 and 2, then 3
abbrev pub other_text : Result ℕ Refusal → List ℕ
other_text (Err why) = refusal_text why
other_text (Ok end) = refusal_text OtherCode

-- `0 CODE S`, or `0 CODE IDENTIFIER`
unfoldable pub start_text : ℕ → ℕ → List ℕ
start_text code second = (48 ∷ []) ++ next_number code ++ next_number second

-- `TYPE=VALUE`, after a space; the value's bytes as on the wire
unfoldable pub field_text : ℕ → List ℕ → List ℕ
field_text kind value = next_number kind ++ (61 ∷ []) ++ hexed value

-- that of each object, in their order
unfoldable pub objects_text : List Object → List ℕ
objects_text [] = []
objects_text (o ∷ os) = field_text o.kind o.value ++ objects_text os

-- the line of a message that was read
unfoldable pub message_text : ℕ → ℕ → List Object → List ℕ
message_text code second os = start_text code second ++ objects_text os ++ line_end

-- what is printed of a reader's answer: the refusal's number alone, or the line of the values that it read
abbrev pub told_text : {A : Type 0} → ℕ → (A → ℕ) → (A → List Object) → Result A Refusal → List ℕ
told_text code second objects (Err why) = refusal_text why
told_text code second objects (Ok v) = message_text code (second v) (objects v)
