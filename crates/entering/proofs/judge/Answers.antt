-- `judge` meets its contract: one law for each way. `typed`, `listed` and `not_ahead`: 9, 10 and 11 have been passed.
use mathlib.Core.Path.{◌≡◌, sym, ◌∙◌}
use mathlib.Core.Bool.{true, false}
use Rattle.terms.specs.Terms.{lists, is_one_type}
use Rattle.terms.proofs.TermsLaws.{one_length}
use Rattle.clock.specs.Clock.{is_ahead}
use Rattle.octets.specs.Part.{bytes_at}
use Rattle.turn.proofs.TurnLaws.{turned_still}
use Rattle.entering.proofs.RequestLaws.{judge_key, judge_type, judge_network, judge_ahead, judge_old, judge_seat}
use Rattle.entering.proofs.judge.Goals as goal

pub returns-then-v : goal.returns-then-v
returns-then-v c = record { leaves = λ q h. judge_key q _ _ _ _ _ h.same c.if-v.true (turned_still q _ h.here c.refused.ensures) }

pub returns-then-not-is_one_type : goal.returns-then-not-is_one_type
returns-then-not-is_one_type c =
    record {
      leaves =
          λ q h.
          judge_type q _ _ _ _ _ h.same c.if-v.false (sym c.is_one_type.ensures ∙ c.if-not-is_one_type.true)
          (c.fail.ensures.leaves q _ h.here);
    }

pub returns-then-not-is_listed : goal.returns-then-not-is_listed
returns-then-not-is_listed c =
    let typed : is_one_type (bytes_at c.args.m.now c.args.v.security) ≡ true = sym c.is_one_type.ensures ∙ c.if-not-is_one_type.false in
    record {
      leaves =
          λ q h.
          judge_network q _ _ _ _ _ h.same c.if-v.false typed (sym c.is_listed.ensures ∙ c.if-not-is_listed.true)
          (c.fail-then-not-is_listed.ensures.leaves q _ h.here);
    }

pub returns-then-ahead : goal.returns-then-ahead
returns-then-ahead c =
    let typed : is_one_type (bytes_at c.args.m.now c.args.v.security) ≡ true = sym c.is_one_type.ensures ∙ c.if-not-is_one_type.false in
    let listed : lists c.args.settings.network (bytes_at c.args.m.now c.args.v.layers) ≡ true = sym c.is_listed.ensures ∙ c.if-not-is_listed.false in
    record {
      leaves =
          λ q h.
          judge_ahead q _ _ _ _ _ h.same c.if-v.false typed listed (sym c.ahead.ensures ∙ c.if-ahead.true)
          (turned_still q _ h.here c.refused-then-ahead.ensures);
    }

pub returns-then-stale : goal.returns-then-stale
returns-then-stale c =
    let typed : is_one_type (bytes_at c.args.m.now c.args.v.security) ≡ true = sym c.is_one_type.ensures ∙ c.if-not-is_one_type.false in
    let listed : lists c.args.settings.network (bytes_at c.args.m.now c.args.v.layers) ≡ true = sym c.is_listed.ensures ∙ c.if-not-is_listed.false in
    let not_ahead : is_ahead c.args.clock c.args.v.stamp ≡ false = sym c.ahead.ensures ∙ c.if-ahead.false in
    record {
      leaves =
          λ q h.
          judge_old q _ _ _ _ _ h.same c.if-v.false typed listed not_ahead (sym c.stale.ensures ∙ c.if-stale.true)
          (c.fail-then-stale.ensures.leaves q _ h.here);
    }

pub place_for-requires : goal.place_for-requires
place_for-requires c =
    record {
      judges = c.requires;
      type = one_length (bytes_at c.args.m.now c.args.v.security) (sym c.is_one_type.ensures ∙ c.if-not-is_one_type.false);
    }

pub returns : goal.returns
returns c =
    let typed : is_one_type (bytes_at c.args.m.now c.args.v.security) ≡ true = sym c.is_one_type.ensures ∙ c.if-not-is_one_type.false in
    let listed : lists c.args.settings.network (bytes_at c.args.m.now c.args.v.layers) ≡ true = sym c.is_listed.ensures ∙ c.if-not-is_listed.false in
    let not_ahead : is_ahead c.args.clock c.args.v.stamp ≡ false = sym c.ahead.ensures ∙ c.if-ahead.false in
    record {
      leaves =
          λ q h.
          judge_seat q _ _ _ _ _ h.same c.if-v.false typed listed not_ahead (sym c.stale.ensures ∙ c.if-stale.false)
          (c.place_for.ensures.leaves q h);
    }
