-- One more place lapses at each turn; then the clock is stored.
use Rattle.std.proofs.Common.{arith, rules, ◌∙◌}
use Rattle.octets.proofs.BytesLaws.{bytes_known}
use Rattle.inplace.proofs.LapseLaws.{lapsing_next, lapse_holds}
use Rattle.inplace.proofs.SaysLaws.{lapsed_long}
use Rattle.inplace.proofs.changing.lapse.Goals as goal

pub loop-i-preserved : goal.loop-i-preserved
loop-i-preserved c =
    let size = c.loop-i.invariant.1 in
    let next = lapsing_next (lapsed_long _ _ _ _) size (omega arith) c.loop-i.invariant.3 c.lapse_place.ensures in
    (omega arith, size, next.size ∙ size, next)

pub returns-after-loop-i : goal.returns-after-loop-i
returns-after-loop-i c =
    let a = c.args in
    lapse_holds a.state.now (bytes_known a.state.now (search rules)) c.loop-i.invariant.1 a.clock c.ranges.clock.fits c.number32-window.ensures
    c.number32-unit.ensures c.number16-lifetime.ensures (omega arith) c.loop-i.invariant.3 c.put_number.ensures
