use Rattle.std.proofs.Common.{sym, ◌∙◌}
use Rattle.asked.specs.Verb.{form}
use Rattle.asked.proofs.VerbLaws.{has, lacks, no_form}
use Rattle.asked.proofs.verb.verb_in.Goals as goal

pub returns-then-is_call : goal.returns-then-is_call
returns-then-is_call c = sym (c.loop-name.invariant ∙ has (λ f. form f.0.now f.1 f.2) c.args.forms.now _ c.loop-name.name-index _ c.loop-name-test.true (sym c.if-is_call.ensures))

pub loop-name-preserved : goal.loop-name-preserved
loop-name-preserved c = c.loop-name.invariant ∙ lacks (λ f. form f.0.now f.1 f.2) c.args.forms.now _ c.loop-name.name-index _ c.loop-name-test.true (sym c.if-is_call.ensures)

pub returns : goal.returns
returns c = sym (c.loop-name.invariant ∙ no_form (λ f. form f.0.now f.1 f.2) c.args.forms.now _ c.loop-name.name-index c.loop-name-test.false)
