use Rattle.std.proofs.Common.{rules, eqb}
use borrow.Author.Tests.{tests}
use Rattle.std.proofs.lemmas.Iterator.Consumers.{nth_from_yields_List}
use Rattle.std.proofs.lemmas.Iterator.Splits.{YieldsList-from_slice_split}
use Rattle.script.specs.Words.{word_of}
use Rattle.script.proofs.WordLaws.{words_split, nth_read}
use Rattle.script.proofs.words.nth_word.Goals as goal

pub returns : goal.returns
unfolding word_of
returns c =
    let parts = nth_from_yields_List c.nth.result _ c.args.n c.nth.ensures.ran
    (YieldsList-from_slice_split _ (λ b. eqb b 32) c.args.line.now c.split.ensures.rest c.split.ensures.done c.split.ensures.closure (λ x b q k. search (rules, tests))) in
    rw (words_split c.args.line.now, c.unwrap_or.ensures) (nth_read (λ x. x.now) c.nth.result _ _ c.args.n parts)
