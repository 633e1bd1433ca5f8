-- The attempt goes, then the session, then the place.
use Rattle.inplace.proofs.AlterLaws.{alters_none}
use Rattle.inplace.proofs.OneLapseLaws.{attempt_goes, session_goes, open_stays, closed_goes}
use Rattle.inplace.proofs.changing.lapse_place.Goals as goal

pub returns-then-flag : goal.returns-then-flag
returns-then-flag c =
    let a = c.args in
    let w₀ = alters_none a.state.now a.at c.requires in
    let w₁ = attempt_goes a.clock a.window a.lifetime a.unit w₀ c.number64.ensures c.stale-attempt.ensures c.blank.ensures in
    let w₂ = session_goes a.clock a.window a.lifetime a.unit w₁ c.number64-2.ensures c.over-session.ensures c.blank-2.ensures in
    open_stays a.clock a.window a.lifetime a.unit a.state.now a.at c.requires c.flag.ensures c.if-not-flag.false w₂ c.flag-2.ensures c.if-flag.true

pub returns : goal.returns
returns c =
    let a = c.args in
    let w₀ = alters_none a.state.now a.at c.requires in
    let w₁ = attempt_goes a.clock a.window a.lifetime a.unit w₀ c.number64.ensures c.stale-attempt.ensures c.blank.ensures in
    let w₂ = session_goes a.clock a.window a.lifetime a.unit w₁ c.number64-2.ensures c.over-session.ensures c.blank-2.ensures in
    closed_goes a.clock a.window a.lifetime a.unit a.state.now a.at c.requires c.flag.ensures c.if-not-flag.false w₂ c.flag-2.ensures c.if-flag.false
    c.number64-3.ensures c.stale-last.ensures c.blank-3.ensures
