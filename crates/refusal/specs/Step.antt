-- What a call leaves: what it hands back, and every byte of the buffer that was lent to it (the paper, 'How much the contracts say':
-- 'a contract settles the answer, the state and every byte of the lent buffers'). Said once for router, node, server and the lines
-- of a replay, each of which hands back an outcome of its own. And what follows an answer, a refusal or done (DECISIONS, 67).
use Rattle.std.specs.Prelude.{ℕ, ◌≡◌, List, [], ◌++◌, length, drop, Result, Ok, Err, ⊤}
use Rattle.refusal.specs.declared.Refusal.{Refusal}
use Rattle.refusal.specs.declared.To.{To}
use Rattle.refusal.specs.declared.To.TheVariants.{Nobody}
use Rattle.refusal.specs.declared.Outcome.{Outcome}

-- what a call hands back, and every byte of the lent buffer after it
pub record StepOf (O : Type 0) : Type 0 where
  pub outcome : O
  pub out : List ℕ

-- a call met no refusal
abbrev pub done : Result ⊤ Refusal
done = Ok tt

-- a call leaves what a step says: its outcome, and every byte of the buffer
pub record Leaves {O : Type 0} (s : StepOf O) (o : O) (after : List ℕ) : Type 0 where
  pub told : o ≡ s.outcome
  pub left : after ≡ s.out

-- a message at the buffer's start: 'Output past the message stays'
abbrev pub written : List ℕ → List ℕ → List ℕ
written message out = message ++ drop (length message) out

-- a step that writes one
abbrev pub writes : {O : Type 0} → O → List ℕ → List ℕ → StepOf O
writes o message out = record { outcome = o; out = written message out }

-- 'A call that meets a refusal passes that number on': what follows an answer
abbrev pub by_answer : {B : Type 0} → Result ⊤ Refusal → (Refusal → B) → B → B
by_answer (Err why) refuse go = refuse why
by_answer (Ok _) refuse go = go

-- what a party's call hands back, and every byte of the lent buffer
abbrev pub Step : Type 0 → Type 0
Step S = StepOf (Outcome S)

-- nothing is written; there is no receiver
abbrev pub silent : {S : Type 0} → Result ⊤ Refusal → S → List ℕ → Step S
silent a s out = record { outcome = record { answer = a; state = s; written = 0; to = Nobody }; out = out }

-- a refusal that writes nothing
abbrev pub refused_with : {S : Type 0} → Refusal → S → List ℕ → Step S
refused_with why s out = silent (Err why) s out

-- a message is written
abbrev pub sends : {S : Type 0} → Result ⊤ Refusal → S → To → List ℕ → List ℕ → Step S
sends a s to message out = writes (record { answer = a; state = s; written = length message; to = to }) message out

-- the outcome of a step that writes, by its writer's answer: the second state where a message was written, else the first
abbrev pub by_writer : {S : Type 0} → Result ℕ Refusal → Result ⊤ Refusal → S → S → To → Outcome S
by_writer (Err why) a s s' to = (refused_with why s []).outcome
by_writer (Ok n) a s s' to = record { answer = a; state = s'; written = n; to = to }
