-- `count` meets its contract.
use mathlib.Core.Path.{ap, ◌∙◌}
use mathlib.Core.Logic.{inl}
use mathlib.Core.List.{List}
use Prim.Native.Nat.{ℕ}
use lib.ListN.{length}
use native.Mathlib.Omega.{arith}
use Rattle.std.proofs.lemmas.Iterator.Consumers.{count_from_yields_List}
use Rattle.object.specs.declared.family.Family.TheVariants.{Misauth}
use Rattle.object.specs.Walk.{all_of, walk_of}
use Rattle.object.proofs.ChainLaws.{mine_chain, few_mine}
use Rattle.misauth.specs.Run.{count_in}
use Rattle.misauth.proofs.run.count.Goals as goal

pub count-requires-clause-fits : goal.count-requires-clause-fits
count-requires-clause-fits c = inl (omega (arith, few_mine c.of.result, c.of.result.objects.fits))

pub returns : goal.returns
unfolding count_in
returns c =
    count_from_yields_List c.of.result c.count.result c.count.ensures.ran (mine_chain c.of.result _ c.of.ensures)
    ∙ ap (λ (body : List ℕ). length (all_of Misauth c.args.kind (walk_of Misauth body).items)) c.body.ensures
