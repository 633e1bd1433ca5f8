-- `decimal` meets its contract. The loop's invariant: the word says what the bytes from the next one on say after the number `n`.
use Prim.Native.Nat.{◌^◌, ◌<◌}
use mathlib.Core.Path.{◌≡◌}
use lib.ListN.{drop}
use Rattle.script.specs.Decimal.{decimal_from, decimal_of}
use Rattle.script.proofs.reading.decimal.Given as goal

abbrev pub invariant-loop-b : goal.invariant-loop-b
invariant-loop-b l = (l.n < 2 ^ 64) × (decimal_of l.word ≡ decimal_from l.n (drop l.b-index l.word))
