-- `number32` meets its contract.
use native.Mathlib.Omega.{arith}
use lib.Dec.{lit≤}
use Rattle.octets.proofs.BytesLaws.{bytes_known}
use Rattle.octets.proofs.NumberLaws.{number_part, number_part_small}
use Rattle.octets.proofs.number.number32.Goals as goal

pub returns : goal.returns
returns c = let a = c.args in
    number_part 4 a.at a.s.now c.part.result.now c.number.result (lit≤ tt) c.part.ensures c.number.ensures

pub overflow_cast-result : goal.overflow_cast-result
overflow_cast-result c = let a = c.args in
    omega (arith, returns c, number_part_small 4 a.at a.s.now (bytes_known a.s.now c.type_inv.s))
