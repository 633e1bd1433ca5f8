-- What a setup leaves, of a party or of its bytes.
use Rattle.std.specs.Prelude.{Result, Ok, Err, ⊤}
use Rattle.refusal.specs.declared.Refusal.{Refusal}
use Rattle.refusal.specs.Step.{done}

-- what it tells: done where it made something, else its refusal
abbrev pub answer_of : {A : Type 0} → Result A Refusal → Result ⊤ Refusal
answer_of (Ok _) = done
answer_of (Err why) = Err why

-- what follows from what it made, or after a refusal (18: 'nothing is made') what was there
abbrev pub where_done : {A B : Type 0} → Result A Refusal → (A → B) → B → B
where_done (Ok new) left before = left new
where_done (Err why) left before = before
