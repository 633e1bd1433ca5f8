-- `lapse` meets its contract. The invariant: the places below i have lapsed.
use Prim.Native.Nat.{◌<◌}
use native.Mathlib.Omega.{arith}
use mathlib.Core.Path.{◌≡◌, refl, sym, ap, ◌∙◌}
use lib.ListN.{length, get_or}
use Rattle.places.specs.declared.place.Place.{Place}
use Rattle.places.specs.Place.{no_place, place_at}
use Rattle.places.specs.State.{lapsed_at}
use Rattle.places.proofs.LapseLaws.{place_free}
use Rattle.places.proofs.MapLaws.{up_to_read, up_to_write, up_to_skip, up_to_all}
use Rattle.places.proofs.state.lapse.Invariants.{with_places}
use Rattle.places.proofs.state.lapse.Goals as goal
use Rattle.places.proofs.state.lapse.Goals.{then-p, else-p}

pub loop-i-preserved : goal.loop-i-preserved
loop-i-preserved c = let a = c.args in
    let s = a.r.settings in
    let f = place_at a.now s.window s.lifetime s.unit in
    let k = c.loop-i.invariant.1 in
    let h : c.loop-i.i < length a.r.places = omega arith in
    let here : get_or c.loop-i.q.places c.loop-i.i no_place ≡ get_or a.r.places c.loop-i.i no_place =
    rw c.loop-i.invariant.2 (up_to_read f a.r.places c.loop-i.i no_place h) in (
      omega arith,
      k,
      elim c.if-p.branch [
        | then-p w ↦
            w.q-is
            ∙ rw (w.place_at.ensures, c.loop-i.invariant.2, up_to_read f a.r.places c.loop-i.i no_place h)
            (ap (with_places a.r) (up_to_write f a.r.places c.loop-i.i no_place h))
        | else-p w ↦
            w.q-is
            ∙ c.loop-i.invariant.2
            ∙ ap (with_places a.r) (up_to_skip f a.r.places c.loop-i.i no_place h (place_free a.now s.window s.lifetime s.unit (get_or a.r.places c.loop-i.i no_place) (sym (ap (λ (x : Place). x.taken) here) ∙ w.if-p.false)))
      ],
    )

pub returns : goal.returns
unfolding lapsed_at
returns c = let a = c.args in
    let s = a.r.settings in
    let k = c.loop-i.invariant.1 in
    rw (c.loop-i.invariant.2, up_to_all (place_at a.now s.window s.lifetime s.unit) a.r.places c.loop-i.i (omega arith)) refl
