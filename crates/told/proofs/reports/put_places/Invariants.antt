-- `put_places` meets its contract.
use Prim.Native.Nat.{◌-◌, ◌≤◌}
use Rattle.told.specs.Print.{Puts}
use Rattle.told.specs.Report.{places_text}
use Rattle.told.proofs.reports.put_places.Given as goal

abbrev pub invariant-loop-i : goal.invariant-loop-i
invariant-loop-i l = (l.i ≤ 64) × Puts (places_text l.i l.router) l.initial.text l.at l.text l.next

abbrev pub decreases-loop-i : goal.decreases-loop-i
decreases-loop-i l = 64 - l.i
