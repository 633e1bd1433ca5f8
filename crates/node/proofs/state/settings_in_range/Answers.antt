-- `settings_in_range` meets its contract, test by test.
use mathlib.Core.Path.{◌≡◌, sym, ◌∙◌}
use mathlib.Core.Bool.{true}
use lib.ListN.{length}
use Rattle.octets.specs.Range.{within}
use Rattle.node.specs.State.{settings_in_range}
use Rattle.node.proofs.state.settings_in_range.Goals as goal

pub returns-then-not-is_within : goal.returns-then-not-is_within
unfolding settings_in_range
returns-then-not-is_within c = rw (sym c.is_within.ensures ∙ c.if-not-is_within.true)

pub returns-then-not-is_within-2 : goal.returns-then-not-is_within-2
unfolding settings_in_range
returns-then-not-is_within-2 c =
    let first : within 1 4294967295 c.args.u ≡ true = sym c.is_within.ensures ∙ c.if-not-is_within.false in
    rw (first, sym c.is_within-2.ensures ∙ c.if-not-is_within-2.true)

pub returns-then-not-is_within-3 : goal.returns-then-not-is_within-3
unfolding settings_in_range
returns-then-not-is_within-3 c =
    let first : within 1 4294967295 c.args.u ≡ true = sym c.is_within.ensures ∙ c.if-not-is_within.false in
    let second : within 1 4294967295 c.args.p ≡ true = sym c.is_within-2.ensures ∙ c.if-not-is_within-2.false in
    rw (first, second, sym c.is_within-3.ensures ∙ c.if-not-is_within-3.true)

pub returns-then-not-is_within-4 : goal.returns-then-not-is_within-4
unfolding settings_in_range
returns-then-not-is_within-4 c =
    let first : within 1 4294967295 c.args.u ≡ true = sym c.is_within.ensures ∙ c.if-not-is_within.false in
    let second : within 1 4294967295 c.args.p ≡ true = sym c.is_within-2.ensures ∙ c.if-not-is_within-2.false in
    let third : within 1 253 (length c.args.password.now) ≡ true = sym c.is_within-3.ensures ∙ c.if-not-is_within-3.false in
    rw (first, second, third, sym c.is_within-4.ensures ∙ c.if-not-is_within-4.true)

pub returns-then-is_type : goal.returns-then-is_type
unfolding settings_in_range
returns-then-is_type c =
    let first : within 1 4294967295 c.args.u ≡ true = sym c.is_within.ensures ∙ c.if-not-is_within.false in
    let second : within 1 4294967295 c.args.p ≡ true = sym c.is_within-2.ensures ∙ c.if-not-is_within-2.false in
    let third : within 1 253 (length c.args.password.now) ≡ true = sym c.is_within-3.ensures ∙ c.if-not-is_within-3.false in
    let fourth : within 1 253 (length c.args.account.now) ≡ true = sym c.is_within-4.ensures ∙ c.if-not-is_within-4.false in
    rw (first, second, third, fourth, sym c.is_type.ensures ∙ c.if-is_type.true)

pub returns-else-is_type : goal.returns-else-is_type
unfolding settings_in_range
returns-else-is_type c =
    let first : within 1 4294967295 c.args.u ≡ true = sym c.is_within.ensures ∙ c.if-not-is_within.false in
    let second : within 1 4294967295 c.args.p ≡ true = sym c.is_within-2.ensures ∙ c.if-not-is_within-2.false in
    let third : within 1 253 (length c.args.password.now) ≡ true = sym c.is_within-3.ensures ∙ c.if-not-is_within-3.false in
    let fourth : within 1 253 (length c.args.account.now) ≡ true = sym c.is_within-4.ensures ∙ c.if-not-is_within-4.false in
    rw (first, second, third, fourth, sym c.is_type.ensures ∙ c.if-is_type.false)
