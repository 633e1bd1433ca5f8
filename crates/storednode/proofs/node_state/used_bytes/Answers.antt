-- `used_bytes` meets its contract: zeros, or the flag and the stamp put into them.
use mathlib.Core.Bool.{true}
use Rattle.octets.specs.Numbers.{bytes_of}
use Rattle.laid.proofs.FieldLaws.{filled_zeros, filled_flag, filled_number, filled_all}
use Rattle.storednode.specs.Node.{used_bytes}
use Rattle.storednode.proofs.node_state.used_bytes.Goals as goal

pub returns-in-None : goal.returns-in-None
unfolding used_bytes bytes_of
returns-in-None c = rw c.in-None.is

pub returns-in-Some : goal.returns-in-Some
unfolding used_bytes
returns-in-Some c =
    let w₁ = filled_flag (filled_zeros 9) true tt c.put.ensures in
    let w₂ = filled_number w₁ 8 c.in-Some.n tt c.put-in-Some.ensures in
    rw c.in-Some.is (filled_all w₂)
