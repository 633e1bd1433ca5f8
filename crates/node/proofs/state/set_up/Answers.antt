-- `set_up` meets its contract.
use native.Mathlib.Omega.{arith}
use mathlib.Core.Path.{sym, ◌∙◌}
use Rattle.terms.proofs.TypeLaws.{takes_small}
use Rattle.node.specs.State.{set_up_node}
use Rattle.node.proofs.SetUpLaws.{node_in_range_law}
use Rattle.node.proofs.state.set_up.Goals as goal

pub returns-then-not-settings_in_range : goal.returns-then-not-settings_in_range
unfolding set_up_node
returns-then-not-settings_in_range c = rw (sym c.settings_in_range.ensures ∙ c.if-not-settings_in_range.true)

pub overflow_cast-settings : goal.overflow_cast-settings
overflow_cast-settings c =
    let small = node_in_range_law _ _ _ _ _ _ (sym c.settings_in_range.ensures ∙ c.if-not-settings_in_range.false) in
    record { fits = omega (arith, small.unit.1) }

pub overflow_cast-settings-2 : goal.overflow_cast-settings-2
overflow_cast-settings-2 c =
    let small = node_in_range_law _ _ _ _ _ _ (sym c.settings_in_range.ensures ∙ c.if-not-settings_in_range.false) in
    record { fits = omega (arith, small.patience.1) }

pub overflow_cast-settings-3 : goal.overflow_cast-settings-3
overflow_cast-settings-3 c =
    let small = node_in_range_law _ _ _ _ _ _ (sym c.settings_in_range.ensures ∙ c.if-not-settings_in_range.false) in
    record { fits = omega (arith, takes_small _ small.kind) }

pub overflow_cast-settings-4 : goal.overflow_cast-settings-4
overflow_cast-settings-4 c =
    let small = node_in_range_law _ _ _ _ _ _ (sym c.settings_in_range.ensures ∙ c.if-not-settings_in_range.false) in
    record { fits = omega (arith, small.network) }

pub returns : goal.returns
unfolding set_up_node
returns c =
    rw (c.fresh.ensures, c.hold.ensures, c.hold-2.ensures, sym c.settings_in_range.ensures ∙ c.if-not-settings_in_range.false)
