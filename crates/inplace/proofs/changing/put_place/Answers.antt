-- The place's bytes at its spot.
use Rattle.std.proofs.Common.{rules, ap, ◌∙◌}
use Rattle.octets.specs.Numbers.{Bytes}
use Rattle.octets.specs.Put.{put_in}
use Rattle.octets.proofs.BytesLaws.{bytes_known}
use Rattle.storedrouter.proofs.TypeLaws.{place_typed}
use Rattle.inplace.proofs.PlacedLaws.{put_place_holds}
use Rattle.inplace.proofs.changing.put_place.Goals as goal

pub returns-then-i-lt-COUNT : goal.returns-then-i-lt-COUNT
returns-then-i-lt-COUNT c =
    let a = c.args in
    let known : Bytes a.state.now = bytes_known a.state.now (search rules) in
    put_place_holds a.state.now known c.if-state-eq-SIZE.true a.i c.if-i-lt-COUNT.true a.p (place_typed a.p _ c.well_formed.1.1.0)
    (c.put_bytes.ensures ∙ ap (put_in a.state.now _) c.place_bytes-place.ensures)
