-- `whole_section` meets its contract.
use mathlib.Core.Path.{◌≡◌, refl, ◌∙◌}
use borrow.Author.Rules.{rules}
use borrow.Author.Tests.{tests}
use Rattle.std.proofs.lemmas.Iterator.Search.{all_from_yields_List}
use Rattle.octets.specs.Choice.{every}
use Rattle.book.specs.Whole.{entry_fits, whole_section}
use Rattle.book.specs.Left.{entries_left}
use Rattle.book.proofs.LeftLaws.{entries_chain}
use Rattle.book.proofs.MatchLaws.{all_every}
use Rattle.book.proofs.whole.whole_section.Goals as goal

pub returns-then-all : goal.returns-then-all
unfolding whole_section
returns-then-all c =
    let fit : c.all.result ≡ every entry_fits (entries_left c.args.entries) =
    all_from_yields_List entry_fits _ _ c.all.result c.all.ensures.ran (entries_chain refl) (λ x b q k. search (rules, tests)) ∙ all_every entry_fits _ in
    rw (← fit, c.if-all.true) c.distinct.ensures

pub returns-else-all : goal.returns-else-all
unfolding whole_section
returns-else-all c =
    let fit : c.all.result ≡ every entry_fits (entries_left c.args.entries) =
    all_from_yields_List entry_fits _ _ c.all.result c.all.ensures.ran (entries_chain refl) (λ x b q k. search (rules, tests)) ∙ all_every entry_fits _ in
    rw (← fit, c.if-all.false)
