-- A call over a state that the caller lends as bytes: the number that it hands back, and what it leaves in every lent buffer
-- (docs/BOUNDARY.md).
use Rattle.std.specs.Prelude.{ℕ, ◌≡◌, List, [], length, ◌==◌, Result, Ok, ⊤}
use Rattle.refusal.specs.declared.Refusal.{Refusal}
use Rattle.octets.specs.Choice.{pick}
use Rattle.octets.specs.Put.{put_in}
use Rattle.refusal.specs.declared.To.{To}
use Rattle.refusal.specs.declared.Outcome.{Outcome}
use Rattle.refusal.specs.declared.To.TheVariants.{Nobody}
use Rattle.refusal.specs.SetUp.{answer_of, where_done}
use Rattle.laid.specs.Field.{Keeps}
use Rattle.handed.specs.Code.{coded, misuse, addressed}

-- a party's state as bytes: how many, which they are, and which state bytes say
pub record Party (A : Type 0) : Type 0 where
  pub size : ℕ
  pub bytes : A → List ℕ
  pub from : List ℕ → A

-- what a call leaves: the number, the state's bytes, the output and the address
pub record Left : Type 0 where
  pub number : ℕ
  pub state : List ℕ
  pub out : List ℕ
  pub to : List ℕ

-- the shell of every call: a state buffer of another size is misuse and nothing changes; else it holds the bytes of the new state, the output
-- is what the call's definition says, and the address is handed out where there is one
unfoldable pub called : {A : Type 0} → Party A → List ℕ → List ℕ → List ℕ → Outcome A → List ℕ → Left
called p state out to e says =
    pick (length state == p.size)
    (record {
      number = coded e.answer e.to e.written;
      state = p.bytes e.state;
      out = says;
      to = addressed e.to to;
    })
    (record { number = misuse; state = state; out = out; to = to })

-- a call without an output hands back the number that the shell says, and the next call finds the state that this one left, whatever the buffer held.
-- Where `settled`, each byte of the state is what the shell says; a buffer of another size stays as it was
pub record EndsLent {A : Type 0} (settled : Type 0) (p : Party A) (state : List ℕ) (e : Outcome A) (number : ℕ) (after : List ℕ) : Type 0 where
  pub told : number ≡ (called p state [] [] e []).number
  pub kept : settled → after ≡ (called p state [] [] e []).state
  pub again : length state ≡ p.size → p.from after ≡ e.state
  pub other : (length state ≡ p.size → ⊥) → after ≡ state

-- a call with an output: besides, the output and the address are what the shell says
pub record LeavesLent {A : Type 0} (settled : Type 0) (p : Party A) (state out to : List ℕ) (e : Outcome A) (says : List ℕ) (number : ℕ) (after wrote given : List ℕ) : Type 0 where
  pub ends : EndsLent settled p state e number after
  pub left : wrote ≡ (called p state out to e says).out
  pub sent : given ≡ (called p state out to e says).to

-- the bytes of a new state are put into the buffer, the address is handed out where there is one
pub record GivesBack (answer : Result ⊤ Refusal) (receiver : To) (written : ℕ) (bytes state to : List ℕ) (number : ℕ) (after given : List ℕ) : Type 0 where
  pub told : number ≡ coded answer receiver written
  pub kept : after ≡ put_in state 0 bytes
  pub sent : given ≡ addressed receiver to

-- what handing back an outcome leaves in the state's bytes and in the address
pub record Hands {A : Type 0} (p : Party A) (e : Outcome A) (to : List ℕ) (number : ℕ) (after given : List ℕ) : Type 0 where
  pub told : number ≡ coded e.answer e.to e.written
  pub kept : Keeps p.bytes p.from e.state after
  pub sent : given ≡ addressed e.to to

-- what setup leaves in a buffer of the right size, the state that it made, or after 18 ('nothing is made') what was there; and that the first call
-- finds the state that it made
pub record Makes {A : Type 0} (p : Party A) (made : Result A Refusal) (before after : List ℕ) : Type 0 where
  pub kept : after ≡ where_done made p.bytes before
  pub again : (new : A) → made ≡ Ok new → p.from after ≡ new

-- the shell of setup: a buffer of another size is misuse and nothing changes
unfoldable pub set_up : {A : Type 0} → Party A → List ℕ → Result A Refusal → Left
set_up p state made =
    pick (length state == p.size)
    (record { number = coded (answer_of made) Nobody 0; state = where_done made p.bytes state; out = []; to = [] })
    (record { number = misuse; state = state; out = []; to = [] })

-- setup leaves what the shell says
pub record SetsUp {A : Type 0} (p : Party A) (state : List ℕ) (made : Result A Refusal) (number : ℕ) (after : List ℕ) : Type 0 where
  pub told : number ≡ (set_up p state made).number
  pub kept : after ≡ (set_up p state made).state
  pub again : (new : A) → length state ≡ p.size → made ≡ Ok new → p.from after ≡ new

-- a question about a stored state; of a buffer of another size the answer is 0
abbrev pub asked : ℕ → List ℕ → ℕ → ℕ
asked size state answer = pick (length state == size) answer 0
