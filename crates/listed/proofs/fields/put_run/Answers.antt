-- `put_run` meets its contract. The loop's invariant: the objects that came are put.
use Rattle.std.proofs.Common.{◌≡◌, ◌∙◌}
use Rattle.std.proofs.lemmas.Iterator.Consumers.{YieldsList-end}
use Rattle.object.specs.declared.family.Family.TheVariants.{Misauth}
use Rattle.object.specs.Objects.{mine_left}
use Rattle.object.specs.Walk.{all_of, walk_of}
use Rattle.object.proofs.ChainLaws.{mine_chain}
use Rattle.listed.proofs.TextLaws.{puts_nothing, puts_more, run_ends}
use Rattle.listed.proofs.fields.put_run.Goals as goal

pub loop-o-init : goal.loop-o-init
loop-o-init c = puts_nothing

pub loop-o-preserved : goal.loop-o-preserved
loop-o-preserved c = puts_more c.args.kind c.loop-o.yielded _ c.loop-o.invariant c.put_object-next.ensures

pub shape_of-text : goal.shape_of-text
shape_of-text c = c.loop-o.invariant.long

pub returns : goal.returns
returns c =
    let those = all_of Misauth c.args.kind (walk_of Misauth c.body-body.result.now).items in
    let from : mine_left c.into_iter-o-iterator.result ≡ mine_left c.of-o-items.result = cc in
    let left : mine_left c.into_iter-o-iterator.result ≡ those = from ∙ c.of-o-items.ensures in
    let all = YieldsList-end (mine_chain c.into_iter-o-iterator.result those left) c.loop-o.yielded c.loop-o.o-iterator c.loop-o.yielded_by c.next.result c.next.new.self c.in-None.is c.next.ensures.steps in
    rw (← run_ends c.args.kind c.args.m.now c.body-body.result.now c.loop-o.yielded c.number16-end.ensures c.body-body.ensures all.0) c.loop-o.invariant
