-- `opened` meets its contract.
use mathlib.Core.Bool.{true}
use mathlib.Core.Path.{sym, ap, ◌∙◌}
use mathlib.Core.List.{List}
use Prim.Native.Nat.{ℕ}
use Rattle.octets.proofs.FittedLaws.{fitted_is}
use Rattle.held.specs.Held.{held_bytes}
use Rattle.octets.specs.Part.{bytes_at}
use Rattle.icv.specs.Icv.{masked}
use Rattle.places.specs.declared.state.Settings.{Settings}
use Rattle.settling.specs.Reply.{opened_by}
use Rattle.settling.proofs.opened.Goals as goal

pub returns : goal.returns
unfolding opened_by
returns c = let a = c.args in
    let key = c.sixteen_at.ensures ∙ fitted_is 16 (bytes_at a.m.now a.v.key) c.requires in
    λ q e.
    ap (λ (k : List ℕ). record { live = true; stamp = a.p.attempt.stamp; check = a.p.attempt.check; key = k; since = a.clock })
    (rw c.as_slice.ensures at c.mask-key.ensures
    ∙ ap (masked (held_bytes a.settings.secret) a.p.attempt.check) key
    ∙ ap (λ (x : Settings). masked (held_bytes x.secret) a.p.attempt.check (bytes_at a.m.now a.v.key)) (sym e))
