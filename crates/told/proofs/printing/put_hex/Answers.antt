-- `put_hex` meets its contract.
use native.Mathlib.Omega.{arith}
use Rattle.told.proofs.PutsLaws.{past_fits, puts_printed}
use Rattle.told.proofs.printing.put_hex.Goals as goal

pub overflow_add-result : goal.overflow_add-result
overflow_add-result c = let p = c.put_hex.ensures in let h = past_fits p (omega arith) (omega arith) in omega arith

pub returns : goal.returns
returns c = puts_printed c.put_hex.ensures
