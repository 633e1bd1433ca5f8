-- `place_known` meets its contract: one law for each way.
use mathlib.Core.Path.{refl, sym, ap, ◌∙◌}
use Rattle.refusal.specs.Step.{done, by_writer}
use Rattle.refusal.specs.declared.To.TheVariants.{Address}
use Rattle.places.specs.declared.state.Router.{Router}
use Rattle.turn.proofs.TurnLaws.{state_stays, turned_by, turned_still}
use Rattle.entering.proofs.RequestLaws.{known_waits, known_open, known_used, known_new}
use Rattle.entering.proofs.place_known.Goals as goal

pub returns-then-repeats_attempt : goal.returns-then-repeats_attempt
returns-then-repeats_attempt c = let a = c.args in
    record {
      leaves =
          λ q e f.
          known_waits q _ _ _ _ _ f (sym c.repeats_attempt.ensures ∙ c.if-repeats_attempt.true)
          (rw (state_stays q a.i f) at (c.ask.ensures.leaves q e f));
    }

pub returns-then-repeats_session : goal.returns-then-repeats_session
returns-then-repeats_session c = let a = c.args in
    record {
      leaves =
          λ q e f.
          known_open q _ _ _ _ _ f (sym c.repeats_attempt.ensures ∙ c.if-repeats_attempt.false)
          {w = c.write_success-w.result} c.requires.asks.judges.room (sym c.repeats_session.ensures ∙ c.if-repeats_session.true) (rw e c.write_success-w.ensures)
          (turned_by done c.write_success-w.result q a.i a.p (Address a.from) f refl c.written.ensures
          ∙ ap (λ (z : Router). by_writer c.write_success-w.result done q z (Address a.from)) (state_stays q a.i f));
    }

pub returns-then-v-p : goal.returns-then-v-p
returns-then-v-p c = record {
  leaves =
      λ q e f.
      known_used q _ _ _ _ _ f (sym c.repeats_attempt.ensures ∙ c.if-repeats_attempt.false)
      (sym c.repeats_session.ensures ∙ c.if-repeats_session.false) c.if-v-p.true
      (turned_still q _ f c.refused.ensures);
}

pub returns : goal.returns
returns c = record {
  leaves =
      λ q e f.
      known_new q _ _ _ _ _ f (sym c.repeats_attempt.ensures ∙ c.if-repeats_attempt.false)
      (sym c.repeats_session.ensures ∙ c.if-repeats_session.false) c.if-v-p.false c.place_with-after.ensures
      (c.ask-2.ensures.leaves q e f);
}
