-- `answer_beacon` meets its contract, exit by exit.
use mathlib.Core.Bool.{true, false}
use mathlib.Core.Path.{◌≡◌, sym, ◌∙◌}
use Rattle.terms.specs.Terms.{lists}
use Rattle.hearing.specs.Hear.{engaged, is_above}
use Rattle.hearing.proofs.HearLaws.{busy, used_up, other_type, other_network, beacon_passed}
use Rattle.hearing.proofs.answer_beacon.Goals as goal

pub returns-then-is_engaged : goal.returns-then-is_engaged
returns-then-is_engaged c = busy _ _ _ _ _ (sym c.is_engaged.ensures ∙ c.if-is_engaged.true) c.refused.ensures

pub returns-then-not-is_above : goal.returns-then-not-is_above
returns-then-not-is_above c =
    let free : engaged c.args.n c.args.v.stamp ≡ false = sym c.is_engaged.ensures ∙ c.if-is_engaged.false in
    used_up _ _ _ _ _ free (sym c.is_above.ensures ∙ c.if-not-is_above.true) c.refused-then-not-is_above.ensures

pub returns-then-not-is_listed : goal.returns-then-not-is_listed
returns-then-not-is_listed c =
    let free : engaged c.args.n c.args.v.stamp ≡ false = sym c.is_engaged.ensures ∙ c.if-is_engaged.false in
    let above : is_above c.args.v.stamp c.args.n.used ≡ true = sym c.is_above.ensures ∙ c.if-not-is_above.false in
    other_type _ _ _ _ _ free above c.bytes_at.ensures (sym c.is_listed.ensures ∙ c.if-not-is_listed.true)
    c.refused-then-not-is_listed.ensures

pub returns-then-not-is_listed-2 : goal.returns-then-not-is_listed-2
returns-then-not-is_listed-2 c =
    let free : engaged c.args.n c.args.v.stamp ≡ false = sym c.is_engaged.ensures ∙ c.if-is_engaged.false in
    let above : is_above c.args.v.stamp c.args.n.used ≡ true = sym c.is_above.ensures ∙ c.if-not-is_above.false in
    let typed : lists c.args.n.settings.kind c.bytes_at.result.now ≡ true = sym c.is_listed.ensures ∙ c.if-not-is_listed.false in
    other_network _ _ _ _ _ free above c.bytes_at.ensures typed c.bytes_at-2.ensures
    (sym c.is_listed-2.ensures ∙ c.if-not-is_listed-2.true) c.refused-then-not-is_listed-2.ensures

pub returns : goal.returns
returns c =
    let free : engaged c.args.n c.args.v.stamp ≡ false = sym c.is_engaged.ensures ∙ c.if-is_engaged.false in
    let above : is_above c.args.v.stamp c.args.n.used ≡ true = sym c.is_above.ensures ∙ c.if-not-is_above.false in
    let typed : lists c.args.n.settings.kind c.bytes_at.result.now ≡ true = sym c.is_listed.ensures ∙ c.if-not-is_listed.false in
    beacon_passed _ _ _ _ _ free above c.bytes_at.ensures typed c.bytes_at-2.ensures
    (sym c.is_listed-2.ensures ∙ c.if-not-is_listed-2.false) c.ask.ensures
