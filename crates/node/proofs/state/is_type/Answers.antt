-- `is_type` meets its contract: no type that we take has more than 16 bits.
use native.Mathlib.Omega.{arith}
use mathlib.Core.Path.{sym}
use Rattle.octets.proofs.ChoiceLaws.{fails}
use Rattle.terms.specs.Terms.{takes_type}
use Rattle.terms.proofs.TypeLaws.{takes_small}
use Rattle.node.proofs.state.is_type.Goals as goal

pub returns-else-kind-le65535 : goal.returns-else-kind-le65535
returns-else-kind-le65535 c = let kind = c.args.kind in sym (fails (takes_type kind) (λ e. omega (arith, takes_small kind e)))
