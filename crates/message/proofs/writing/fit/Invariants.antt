-- `fit` meets its contract.
use mathlib.Core.Path.{◌≡◌}
use Prim.Native.Nat.{◌+◌, ◌≤◌}
use lib.ListN.{length, take}
use Rattle.object.specs.Family.{header_of, limit_of}
use Rattle.message.specs.Laid.{laid_all}
use Rattle.message.proofs.writing.fit.Given as goal

abbrev pub invariant-loop-o : goal.invariant-loop-o
invariant-loop-o l = (l.end ≡ header_of l.fn.f + length (laid_all (take l.o-index l.objects))) × (l.end ≤ limit_of l.fn.f)
