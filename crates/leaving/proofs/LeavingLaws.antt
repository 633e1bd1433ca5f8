-- The exits of a node that leaves.
use Rattle.std.specs.Prelude.{Result, Ok, Err}
use Prim.Native.Nat.{ℕ, ◌≤◌}
use mathlib.Core.Path.{◌≡◌, ap, ◌∙◌}
use mathlib.Core.Bool.{true, false}
use mathlib.Core.List.{List, []}
use lib.ListN.{length}
use borrow.Author.Tests.{le-ltb}
use Rattle.refusal.specs.declared.Outcome.{Outcome}
use Rattle.octets.proofs.ChoiceLaws.{never, pick_yes, pick_no}
use Rattle.refusal.specs.declared.Refusal.{Refusal}
use Rattle.refusal.specs.declared.Refusal.TheVariants.{NotExpected}
use Rattle.object.specs.declared.family.Family.TheVariants.{Misp}
use Rattle.object.specs.Family.{limit_of}
use Rattle.message.specs.Writing.{Writes}
use Rattle.message.proofs.WroteLaws.{whole_told}
use Rattle.checked.specs.Checked.{terminating_of}
use Rattle.checked.proofs.TerminatingLaws.{terminating_of_fits}
use Rattle.node.specs.declared.Node.{Node}
use Rattle.node.specs.declared.Session.{Session}
use Rattle.refusal.specs.Step.{Leaves, refused_with}
use Rattle.refusal.proofs.StepLaws.{leaves_told}
use Rattle.node.specs.State.{Step, sent, sends, no_session, lapsed_at, with_session}
use Rattle.leaving.specs.Leave.{leaving_now, leaving}
use Rattle.node.proofs.SentLaws.{written_sent}

-- past 20 and 7. The test is a field of the node, and the step names the node too: so the way is picked (`pick_no`, `pick_yes`), where rewriting would change both.
module _ (n : Node) (out : List ℕ) where
  -- the terminating message
  abbrev message : List ℕ
  message = terminating_of n.session.key n.settings.address n.settings.router n.session.stamp

  -- 21: no session is open
  pub leave_none : n.session.live ≡ false → {o : Outcome Node} → o ≡ (refused_with NotExpected n []).outcome → Leaves (leaving_now n out) o out
  unfolding leaving_now
  leave_none l {o} e = pick_no (λ (s : Step). Leaves s o out) (sends (with_session no_session n) message out) l (leaves_told e)

  -- the message goes out, and the session closes
  pub leave_sent : n.session.live ≡ true → {after : List ℕ} {r : Result ℕ Refusal} {k : ℕ} → Writes Misp true message out after r → r ≡ Ok k
      → {w : Session} {q : Node} {o : Outcome Node} → w ≡ no_session → q ≡ with_session w n → o ≡ sent q k → Leaves (leaving_now n out) o after
  unfolding leaving_now
  leave_sent l {after} {k = k} w e {o = o} f g h =
      pick_yes (λ (s : Step). Leaves s o after) (refused_with NotExpected n out) l
      (written_sent (rw e at w) (h ∙ ap (λ (p : Node). sent p k) (g ∙ ap (λ (s : Session). with_session s n) f)))

  -- the writer does not refuse
  pub leave_unrefused : limit_of Misp ≤ length out → {after : List ℕ} {r : Result ℕ Refusal} {why : Refusal} → Writes Misp true message out after r → r ≡ Err why → ⊥
  leave_unrefused room w e =
      let t = whole_told w (terminating_of_fits n.session.stamp n.session.key n.settings.address n.settings.router) room in
      never cc

-- a call, past 20 and 7: the message
module _ (n : Node) (clock : ℕ) (out : List ℕ) {limit : ℕ} (is : limit ≡ limit_of Misp) where
  pub leave_then : limit ≤ length out → n.clock ≤ clock → {q : Node} → q ≡ lapsed_at clock n → {o : Outcome Node} {after : List ℕ}
      → Leaves (leaving_now q out) o after → Leaves (leaving n clock out) o after
  unfolding leaving
  leave_then h a e p = rw (le-ltb _ _ (rw is at h), le-ltb _ _ a) (rw e at p)
