use Rattle.std.proofs.Common.{ap, ◌∙◌, refl, ◌-◌, length, length-drop, drop, rules, arith, eqb, drop_of_length-le}
use borrow.Author.Tests.{tests}
use Rattle.std.proofs.lemmas.Iterator.{YieldsList-from_slice}
use Rattle.std.proofs.lemmas.Iterator.Search.{position_from_yields_List}
use lib.Seq.{take_all}
use Rattle.script.specs.Words.{up_to}
use Rattle.script.proofs.WordLaws.{up_length, up_position, place_read}
use Rattle.script.proofs.words.end_of.Goals as goal

pub returns-then-s-from : goal.returns-then-s-from
unfolding up_to
returns-then-s-from c = rw (drop_of_length-le c.args.s.now {i = c.args.from} (omega arith)) (omega arith)

pub returns : goal.returns
returns c =
    let rest = drop c.args.from c.args.s.now in
    let all = take_all (length c.args.s.now - c.args.from) rest (omega (arith, length-drop c.args.from c.args.s.now)) in
    let place = position_from_yields_List (λ b. eqb b c.args.mark) _ _ _ c.position.ensures.ran (YieldsList-from_slice rest (c.iter.ensures.rest ∙ all)) (λ x b q k. search (rules, tests)) in
    let e = up_position c.args.mark rest in
    let r = place_read (length (up_to c.args.mark rest)) (length rest) _ c.position.result (place ∙ rw e refl) (up_length c.args.mark rest) (ap length all) in
    omega (arith, c.unwrap_or.ensures, r)
