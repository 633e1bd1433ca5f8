-- `nth` meets its contract.
use mathlib.Core.Path.{◌≡◌, ap, ◌∙◌}
use borrow.Author.Rules.{rules}
use Rattle.std.specs.Option.{option_map}
use Rattle.std.proofs.lemmas.Iterator.Consumers.{nth_from_yields_List}
use Rattle.object.specs.Objects.{item_of}
use Rattle.object.specs.Walk.{found_of}
use Rattle.object.proofs.ChainLaws.{mine_chain, nth_get}
use Rattle.object.proofs.walk.nth.Goals as goal

pub returns : goal.returns
unfolding found_of
returns c =
    let part : c.map.result ≡ found_of (option_map item_of c.nth.result) = search rules in
    part ∙ ap found_of (nth_from_yields_List c.nth.result c.nth.new.self c.args.n c.nth.ensures.ran (mine_chain c.of.result _ c.of.ensures)
    ∙ nth_get c.args.n _)
