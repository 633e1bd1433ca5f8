-- `write_beacon` meets its contract.
use mathlib.Core.Path.{◌≡◌, sym, ◌∙◌}
use borrow.Author.Rules.{rules}
use Rattle.object.specs.declared.family.Family.TheVariants.{Misp}
use Rattle.position.specs.Position.{position_bytes}
use Rattle.message.specs.Writing.{encoded}
use Rattle.message.specs.Laid.{laid_all}
use Rattle.message.proofs.WritingLaws.{writes_small, writes_range}
use Rattle.beacons.specs.Beacon.{uplink_bytes, beacon_values, beacon_in_range, beacon_bytes}
use Rattle.beacons.proofs.ExtrasLaws.{bytes_given, position_laid, uplink_laid, extras_laid}
use Rattle.beacons.proofs.beacon.write_beacon.Goals as goal

pub returns-then-out-limit : goal.returns-then-out-limit
returns-then-out-limit c = writes_small Misp _ _ _ c.limit.ensures c.if-out-limit.true

pub returns-then-not-in_range : goal.returns-then-not-in_range
unfolding beacon_in_range
returns-then-not-in_range c = let a = c.args in
    let range : c.if-lists.in_range ≡ beacon_in_range (beacon_values a.stamp a.groups.now a.serial a.interval a.security.now a.layers.now a.extras) =
    search rules in
    writes_range Misp _ _ c.limit.ensures c.if-out-limit.false (sym range ∙ c.if-not-in_range.true)

pub returns : goal.returns
unfolding beacon_in_range beacon_bytes encoded laid_all
returns c = let a = c.args in
    let e = a.extras in
    let range : c.if-lists.in_range ≡ beacon_in_range (beacon_values a.stamp a.groups.now a.serial a.interval a.security.now a.layers.now e) = search rules in
    let place = bytes_given position_bytes _ e.position _ c.unwrap_or_default.ensures c.bytes-place.ensures in
    let position = c.given.ensures ∙ rw c.is_some.ensures (position_laid e.position _ place) in
    let uplink = bytes_given uplink_bytes _ e.uplink _ c.unwrap_or_default-2.ensures c.uplink_bytes-uplink.ensures in
    let linked = c.given-2.ensures ∙ rw c.is_some-2.ensures (uplink_laid e.uplink _ uplink) in
    let laid = extras_laid e position c.optional.ensures c.optional-2.ensures linked c.optional-3.ensures in
    rw (← range, c.if-not-in_range.false, laid, ← c.from.ensures, ← c.from-2.ensures) c.write.ensures
