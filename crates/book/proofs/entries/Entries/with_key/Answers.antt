-- `with_key` meets its contract.
use mathlib.Core.Path.{refl, sym, ◌∙◌}
use borrow.Author.Rules.{rules}
use borrow.Author.Tests.{tests}
use Rattle.std.proofs.lemmas.Iterator.Search.{find_from_yields_List}
use Rattle.std.proofs.lemmas.Iterator.Adapters.{option_map_id}
use Rattle.octets.specs.Same.{same_bytes}
use Rattle.book.specs.Entries.{entry_key}
use Rattle.book.specs.Left.{entries_left}
use Rattle.book.proofs.LeftLaws.{entries_chain}
use Rattle.book.proofs.MatchLaws.{find_first}
use Rattle.book.proofs.entries.Entries.with_key.Goals as goal

pub returns : goal.returns
unfolding entry_key
returns c =
    let s = c.args.self in
    sym (option_map_id c.find.result)
    ∙ find_from_yields_List (λ e. same_bytes (entry_key s.book.now e) c.args.key.now) _ _ c.find.result c.find.ensures.ran (entries_chain refl) (λ x b q k. search (rules, tests))
    ∙ find_first s.book.now c.args.key.now (entries_left s)
