use Rattle.std.proofs.Common.{◌≡◌, true, false, refl, sym, ◌∙◌}
use Rattle.octets.specs.Same.{same_bytes}
use Rattle.script.specs.Words.{word_of}
use Rattle.octets.proofs.SameLaws.{same_pointwise}
use Rattle.asked.specs.Arguments.{is_call}
use Rattle.asked.proofs.arguments.is_call.Goals as goal

pub returns-then-eq : goal.returns-then-eq
unfolding is_call
returns-then-eq c =
    let same : same_bytes (word_of c.args.line.now 0) c.args.name.now ≡ true = sym (same_pointwise _ _) ∙ sym (rw c.nth_word.ensures at c.if-eq.ensures) in
    rw (same, c.count_words.ensures) refl

pub returns-else-eq : goal.returns-else-eq
unfolding is_call
returns-else-eq c =
    let same : same_bytes (word_of c.args.line.now 0) c.args.name.now ≡ false = sym (same_pointwise _ _) ∙ sym (rw c.nth_word.ensures at c.if-eq.ensures) in
    rw (same, c.if-eq.false) refl
