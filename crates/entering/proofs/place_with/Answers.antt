-- `place_with` meets its contract.
use mathlib.Core.Path.{ap, ◌∙◌}
use mathlib.Core.List.{List}
use Prim.Native.Nat.{ℕ}
use mathlib.Core.Bool.{true}
use Rattle.octets.proofs.FittedLaws.{fitted_is}
use Rattle.octets.specs.Part.{bytes_at}
use Rattle.entering.proofs.place_with.Goals as goal

pub returns : goal.returns
returns c = let a = c.args in
    ap
    (λ (k : List ℕ). record {
      taken = true;
      address = a.address;
      last = a.v.stamp;
      attempt = record { waiting = true; stamp = a.v.stamp; check = k };
      session = a.session;
    })
    (c.sixteen_at-check.ensures ∙ fitted_is 16 (bytes_at a.m.now a.v.check) c.requires)
