-- `bytes` meets its contract: settings and clock, then the places. The invariant: the places below i are put past them.
use native.Mathlib.Omega.{arith}
use mathlib.Core.Path.{◌≡◌, ap, ◌∙◌}
use lib.ListN.{length}
use borrow.Author.Rules.{rules}
use Rattle.octets.proofs.PutLaws.{put_in_length}
use Rattle.laid.proofs.FieldLaws.{filled_zeros, filled_next, filled_number}
use Rattle.storedrouter.specs.Settings.{settings_bytes}
use Rattle.storedrouter.specs.Router.{router_bytes, router_from}
use Rattle.storedrouter.proofs.RouterLaws.{placing_none, placing_next, placing_all, router_undone}
use Rattle.storedrouter.proofs.TypeLaws.{router_typed}
use Rattle.storedrouter.proofs.router_state.bytes.Goals as goal

pub loop-i-init : goal.loop-i-init
loop-i-init c =
    let many : length c.args.r.places ≡ 64 = search rules in
    let long : length c.put.new.out ≡ 6075 =
    ap length c.put.ensures ∙ put_in_length _ _ _ ∙ ap length c.put_bytes.ensures ∙ put_in_length _ _ _ in
    (omega arith, many, long, placing_none)

pub loop-i-preserved : goal.loop-i-preserved
loop-i-preserved c = let k = c.loop-i.invariant.1 in
    let long = c.loop-i.invariant.2 in (
      omega arith,
      k,
      ap length c.put_bytes-in-loop-i.ensures ∙ put_in_length _ _ _ ∙ long,
      placing_next c.loop-i.invariant.3 (omega arith) (omega arith) c.place_bytes-place.ensures (search rules) c.put_bytes-in-loop-i.ensures,
    )

pub returns : goal.returns
unfolding router_bytes
returns c = let r = c.args.r in
    let w₁ = filled_next (filled_zeros 6075) (settings_bytes r.settings) 371 c.settings_bytes.ensures (search rules) tt c.put_bytes.ensures in
    let w₂ = filled_number w₁ 8 r.clock tt c.put.ensures in
    let e = placing_all c.loop-i.invariant.3 w₂ c.loop-i.invariant.1 (omega arith) in
    record { is = e; again = ap router_from e ∙ router_undone r (router_typed r _ c.well_formed.0) }
