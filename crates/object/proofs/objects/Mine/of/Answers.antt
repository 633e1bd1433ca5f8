-- `of` meets its contract.
use Rattle.object.proofs.ChainLaws.{mine_all}
use Rattle.object.proofs.objects.Mine.of.Goals as goal

pub returns : goal.returns
returns c = mine_all c.args.f c.args.wanted c.rule_of.ensures c.of.ensures
