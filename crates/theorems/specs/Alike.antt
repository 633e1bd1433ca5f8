-- What it means that a lent buffer decides nothing: a call that gets two buffers of one length has the same outcome, writes the same bytes, and leaves
-- past them each buffer as it was. Said once for router, node and server, which have each their own outcome.
-- The laws of a test, of a reader's answer and of a header's tests are of any relation `A`: bytes after a Length use them with equality.
use Rattle.message.specs.Reading.{by_result}
use Rattle.std.specs.Prelude.{ℕ, Bool, true, false, ◌≡◌, refl, List, ◌++◌, length, take, drop, nat_lt, Result, Ok, Err}
use Rattle.std.proofs.Common.{sym, ◌∙◌, take_at, drop_at}
use Rattle.octets.specs.Choice.{pick}
use Rattle.refusal.specs.declared.Refusal.{Refusal}
use Rattle.refusal.specs.Step.{StepOf, writes}

-- of the steps s and s' that the buffers out and out' lead to, whose outcomes say how many bytes were written
pub record SameFrom {O : Type 0} (written : O → ℕ) (out out' : List ℕ) (s s' : StepOf O) : Type 0 where
  pub same : s.outcome ≡ s'.outcome
  pub bytes : take (written s.outcome) s.out ≡ take (written s.outcome) s'.out
  pub past : drop (written s.outcome) s.out ≡ drop (written s.outcome) out
  pub past' : drop (written s.outcome) s'.out ≡ drop (written s.outcome) out'

-- as much as was written of what a step leaves in the buffer is the message
pub written_is : (message out : List ℕ) → take (length message) (message ++ drop (length message) out) ≡ message
written_is message out = take_at message (drop (length message) out) (length message) refl

-- a message is written at the start of the buffer, and the rest stays
pub sent_alike : {O : Type 0} (written : O → ℕ) (o : O) (message out out' : List ℕ) → written o ≡ length message
    → SameFrom written out out' (writes o message out) (writes o message out')
sent_alike written o message out out' w =
    let n = length message in
    record {
      same = refl;
      bytes = rw w (written_is message out ∙ sym (written_is message out'));
      past = rw w (drop_at message (drop n out) n refl);
      past' = rw w (drop_at message (drop n out') n refl);
    }

-- two steps that make the same test, and are alike on each way of it, are alike
pub pick_alike : {S : Type 0} (A : S → S → Type 0) (b : Bool) (x y x' y' : S) → (b ≡ true → A x x') → (b ≡ false → A y y') → A (pick b x y) (pick b x' y')
pick_alike A true x y x' y' f g = f refl
pick_alike A false x y x' y' f g = g refl

-- so are two that go by the same answer
pub result_alike : {T S : Type 0} (A : S → S → Type 0) (t : Result T Refusal) (f f' : Refusal → S) (g g' : T → S)
    → ((why : Refusal) → A (f why) (f' why)) → ((v : T) → t ≡ Ok v → A (g v) (g' v)) → A (by_result t f g) (by_result t f' g')
result_alike A (Err why) f f' g g' out pass = out why
result_alike A (Ok v) f f' g g' out pass = pass v refl

-- two calls that can write are alike if their refusals with 20 and with 7 are, and what stands past these
pub begin_alike : {O : Type 0} (written : O → ℕ) {out out' : List ℕ} → length out' ≡ length out → (limit now clock : ℕ) {x y z x' y' z' : StepOf O}
    → SameFrom written out out' x x' → SameFrom written out out' y y' → SameFrom written out out' z z'
    → SameFrom written out out' (pick (nat_lt (length out) limit) x (pick (nat_lt now clock) y z)) (pick (nat_lt (length out') limit) x' (pick (nat_lt now clock) y' z'))
begin_alike written {out} {out'} same limit now clock f g h =
    let A = SameFrom written out out' in
    rw same (pick_alike A (nat_lt (length out) limit) _ _ _ _ (λ _. f) λ _. pick_alike A (nat_lt now clock) _ _ _ _ (λ _. g) λ _. h)
