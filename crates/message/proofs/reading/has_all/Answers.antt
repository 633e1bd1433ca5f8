-- `has_all` meets its contract.
use mathlib.Core.Path.{◌∙◌}
use borrow.Author.Rules.{rules}
use borrow.Author.Tests.{tests}
use Rattle.std.proofs.lemmas.Iterator.{YieldsList-from_slice}
use Rattle.std.proofs.lemmas.Iterator.Search.{all_from_yields_List}
use Rattle.message.specs.Reading.{has_all, has_one}
use Rattle.message.proofs.ReadingLaws.{all_every}
use Rattle.message.proofs.reading.has_all.Goals as goal

pub returns : goal.returns
unfolding has_all
returns c = let a = c.args in
    all_from_yields_List (λ t. has_one a.f t a.body.now) _ _ c.all.result c.all.ensures.ran (YieldsList-from_slice a.types.now cc) (λ x b q k. search (rules, tests))
    ∙ all_every (λ t. has_one a.f t a.body.now) a.types.now
