-- The shell of a call over a stored state: where the buffer has another size, where it says the new state, and where the outcome was handed back.
use Rattle.std.specs.Prelude.{Result, Ok, Err}
use Prim.Native.Nat.{ℕ}
use mathlib.Core.Path.{◌≡◌, refl, ap, ◌∙◌}
use mathlib.Core.List.{List}
use lib.ListN.{length}
use borrow.Author.Tests.{eq-eqb, ne_eqb}
use Rattle.refusal.specs.declared.Refusal.{Refusal}
use Rattle.octets.proofs.ChoiceLaws.{never}
use Rattle.octets.specs.Put.{put_in}
use Rattle.octets.proofs.PatchLaws.{put_in_whole}
use Rattle.refusal.specs.declared.To.TheVariants.{Nobody}
use Rattle.refusal.specs.SetUp.{answer_of}
use Rattle.refusal.proofs.StepLaws.{one_value}
use Rattle.laid.specs.Field.{Keeps}
use Rattle.handed.specs.Code.{coded, misuse, addressed}
use Rattle.refusal.specs.declared.Outcome.{Outcome}
use Rattle.shell.specs.Shell.{Party, called, LeavesLent, EndsLent, GivesBack, Hands, Makes, set_up, SetsUp, asked}

-- the bytes of a value that fill a buffer say it again
keeps_put : {A : Type 0} {bytes : A → List ℕ} {from : List ℕ → A} {x : A} {t after : List ℕ} (l : List ℕ) → Keeps bytes from x t
    → length l ≡ length t → after ≡ put_in l 0 t → Keeps bytes from x after
keeps_put {from = from} {t = t} l k same e =
    let whole = e ∙ put_in_whole l t same in
    record { is = whole ∙ k.is; again = ap from whole ∙ k.again }

-- what was given back as bytes is the new state
pub hands_back : {A : Type 0} {p : Party A} {e : Outcome A} {t state to after given : List ℕ} {number : ℕ} → Keeps p.bytes p.from e.state t
    → length state ≡ length t → GivesBack e.answer e.to e.written t state to number after given → Hands p e to number after given
hands_back {state = state} k same g = record { told = g.told; kept = keeps_put state k same g.kept; sent = g.sent }

-- a call without an output
module _ {A : Type 0} {settled : Type 0} {p : Party A} {state : List ℕ} {e : Outcome A} where
  -- the buffer has another size
  pub misused_quietly : (length state ≡ p.size → ⊥) → EndsLent settled p state e misuse state
  unfolding called
  misused_quietly other =
      let b = ne_eqb (length state) p.size other in
      record { told = rw b; kept = λ _. rw b; again = λ fits. absurd (other fits); other = λ _. refl }

  -- the buffer has the size and says the new state, by its bytes where they are settled
  pub ended_quietly : {number : ℕ} {after : List ℕ} → length state ≡ p.size → number ≡ coded e.answer e.to e.written
      → (settled → after ≡ p.bytes e.state) → p.from after ≡ e.state → EndsLent settled p state e number after
  unfolding called
  ended_quietly fits told kept again =
      let b = eq-eqb (length state) p.size fits in
      record { told = rw b told; kept = λ k. rw b (kept k); again = λ _. again; other = λ n. absurd (n fits) }

  -- the outcome was handed back into it
  pub handed_quietly : {to : List ℕ} {number : ℕ} {after given : List ℕ} → length state ≡ p.size → Hands p e to number after given
      → EndsLent settled p state e number after
  handed_quietly fits h = ended_quietly fits h.told (λ _. h.kept.is) h.kept.again

-- a call with an output
module _ {A : Type 0} {settled : Type 0} {p : Party A} {state out to : List ℕ} {e : Outcome A} {says : List ℕ} where
  -- the buffer has another size
  pub misused : (length state ≡ p.size → ⊥) → LeavesLent settled p state out to e says misuse state out to
  unfolding called
  misused other =
      let b = ne_eqb (length state) p.size other in
      record { ends = misused_quietly other; left = rw b; sent = rw b }

  -- it has the size: besides what a call without an output leaves, the output and the address are what the shell says
  pub ended : {number : ℕ} {after wrote given : List ℕ} → length state ≡ p.size → EndsLent settled p state e number after → wrote ≡ says
      → given ≡ addressed e.to to → LeavesLent settled p state out to e says number after wrote given
  unfolding called
  ended fits ends wrote sent =
      let b = eq-eqb (length state) p.size fits in
      record { ends = ends; left = rw b wrote; sent = rw b sent }

  -- the outcome was handed back into it
  pub handed : {number : ℕ} {after wrote given : List ℕ} → length state ≡ p.size → Hands p e to number after given → wrote ≡ says
      → LeavesLent settled p state out to e says number after wrote given
  handed fits h wrote = ended fits (handed_quietly fits h) wrote h.sent

-- setup
module _ {A : Type 0} {p : Party A} {state : List ℕ} {made : Result A Refusal} where
  -- the buffer has another size
  pub misused_setup : (length state ≡ p.size → ⊥) → SetsUp p state made misuse state
  unfolding set_up
  misused_setup other =
      let b = ne_eqb (length state) p.size other in
      record { told = rw b; kept = rw b; again = λ _ fits. absurd (other fits) }

  -- it has the size
  pub set_up_made : {number : ℕ} {after : List ℕ} → length state ≡ p.size → number ≡ coded (answer_of made) Nobody 0 → Makes p made state after
      → SetsUp p state made number after
  unfolding set_up
  set_up_made fits told m =
      let b = eq-eqb (length state) p.size fits in
      record { told = rw b told; kept = rw b m.kept; again = λ new _. m.again new }

-- the bytes of what setup made are stored
pub made_bytes : {A : Type 0} {p : Party A} {new : A} {t after : List ℕ} (state : List ℕ) → Keeps p.bytes p.from new t
    → length state ≡ length t → after ≡ put_in state 0 t → Makes p (Ok new) state after
made_bytes state k same e =
    let whole = keeps_put state k same e in
    record { kept = whole.is; again = λ _ f. whole.again ∙ one_value f }

-- nothing is made
pub made_none : {A : Type 0} {p : Party A} {why : Refusal} (state : List ℕ) → Makes p (Err why) state state
made_none state = record { kept = refl; again = λ _ f. never cc }

-- a question about a buffer of another size
pub not_asked : (size : ℕ) (state : List ℕ) (answer : ℕ) → (length state ≡ size → ⊥) → 0 ≡ asked size state answer
not_asked size state answer other = rw (ne_eqb (length state) size other)

-- and about one of the right size
pub was_asked : (size : ℕ) (state : List ℕ) (answer : ℕ) → length state ≡ size → answer ≡ asked size state answer
was_asked size state answer fits = rw (eq-eqb (length state) size fits)
