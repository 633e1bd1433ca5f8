use Rattle.std.proofs.Common.{sym, ◌∙◌, arith, rules}
use borrow.Author.Tests.{tests}
use Rattle.std.proofs.lemmas.Iterator.{YieldsList-from_slice}
use Rattle.std.proofs.lemmas.Iterator.Search.{all_from_yields_List}
use Rattle.std.specs.Char.{is_ascii_hexdigit}
use Rattle.std.proofs.lemmas.Bool.Decides.{nat_tests}
use Rattle.script.proofs.DigitLaws.{hex_digits}
use Rattle.script.proofs.HexLaws.{hex_empty, hex_odd, hex_even}
use Rattle.script.proofs.reading.is_hex.Goals as goal
use Rattle.script.proofs.reading.is_hex.Goals.{then-not-is_empty, else-not-is_empty}

pub returns-then-word-eq0 : goal.returns-then-word-eq0
returns-then-word-eq0 c =
    let all = all_from_yields_List (λ b. is_ascii_hexdigit b) _ _ _ c.all.ensures.ran (YieldsList-from_slice c.args.word.now cc) (λ x b q k. search (rules, tests)) in
    all ∙ hex_digits c.args.word.now ∙ sym (elim c.if-not-is_empty.branch [ then-not-is_empty w ↦ grind (arith, nat_tests, hex_even) | else-not-is_empty w ↦ grind (arith, nat_tests) ])

pub returns-else-word-eq0 : goal.returns-else-word-eq0
returns-else-word-eq0 c = elim c.if-not-is_empty.branch [ then-not-is_empty w ↦ grind (arith, nat_tests, hex_odd) | else-not-is_empty w ↦ grind (arith, nat_tests, hex_empty) ]
