-- `all_fit` meets its contract.
use mathlib.Core.Path.{◌∙◌}
use borrow.Author.Rules.{rules}
use borrow.Author.Tests.{tests}
use Rattle.std.proofs.lemmas.Iterator.{YieldsList-from_slice}
use Rattle.std.proofs.lemmas.Iterator.Search.{all_from_yields_List}
use Rattle.message.specs.Reading.{all_fit, fits_one}
use Rattle.message.proofs.ReadingLaws.{all_every}
use Rattle.message.proofs.reading.all_fit.Goals as goal

pub returns : goal.returns
unfolding all_fit
returns c = let a = c.args in
    all_from_yields_List (λ t. fits_one a.f t a.body.now) _ _ c.all.result c.all.ensures.ran (YieldsList-from_slice a.types.now cc) (λ x b q k. search (rules, tests))
    ∙ all_every (λ t. fits_one a.f t a.body.now) a.types.now
