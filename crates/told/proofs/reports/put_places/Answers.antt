-- `put_places` meets its contract.
use borrow.Author.Rules.{rules}
use mathlib.Core.Path.{◌≡◌}
use native.Mathlib.Omega.{arith}
use Rattle.told.proofs.ReportLaws.{places_none, places_more}
use Rattle.told.proofs.reports.put_places.Goals as goal

pub loop-i-init : goal.loop-i-init
loop-i-init c = (search rules, places_none c.args.router)

pub loop-i-preserved : goal.loop-i-preserved
loop-i-preserved c = (search rules, places_more c.args.router c.loop-i.i c.loop-i.invariant.1 c.place_of.ensures c.put_place-next.ensures)

pub shape_of-text : goal.shape_of-text
shape_of-text c = c.loop-i.invariant.1.long

pub returns : goal.returns
returns c = let z : c.loop-i.i ≡ 64 = omega arith in rw z at c.loop-i.invariant.1
