-- `verb_in` meets its contract. The loop's invariant: the forms from the next one on decide.
use Rattle.std.proofs.Common.{◌≡◌, drop, map}
use Rattle.asked.specs.Verb.{form, verb_in}
use Rattle.asked.proofs.verb.verb_in.Given as goal

abbrev pub invariant-loop-name : goal.invariant-loop-name
invariant-loop-name l =
    verb_in (map (λ f. form f.0.now f.1 f.2) l.forms) l.line ≡ verb_in (map (λ f. form f.0.now f.1 f.2) (drop l.name-index l.forms)) l.line
