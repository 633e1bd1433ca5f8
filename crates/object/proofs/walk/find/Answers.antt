-- `find` meets its contract.
use mathlib.Core.Path.{sym, ap, ◌∙◌}
use Rattle.object.specs.Objects.{item_of}
use Rattle.object.specs.Walk.{Walk, walk_of}
use Rattle.object.proofs.ChainLaws.{mine_by, part_found, finds_none, finds_end, finds_other, finds_first, finds_last}
use Rattle.object.proofs.walk.find.Goals as goal

pub loop-o-init : goal.loop-o-init
loop-o-init c = let a = c.args in
    rw (ap (λ (w : Walk). w.items) c.of-objects.ensures) (finds_none a.f a.wanted (walk_of a.f a.body.now).items)

pub returns-then-not-last_counts : goal.returns-then-not-last_counts
returns-then-not-last_counts c = let a = c.args in
    let i = item_of c.in-Some.o in
    let counts = sym (mine_by a.f a.wanted i c.rule_of-rule.ensures) ∙ sym c.is_mine.ensures ∙ c.if-is_mine.true in
    finds_first a.f a.wanted c.loop-o.invariant (ap (λ (w : Walk). w.items) c.in-Some.ensures.steps) counts
    (sym c.last_counts.ensures ∙ c.if-not-last_counts.true)
    (part_found c.in-Some.o c.part.result c.part.ensures.at c.part.ensures.len)

pub loop-o-preserved-then-is_mine : goal.loop-o-preserved-then-is_mine
loop-o-preserved-then-is_mine c = let a = c.args in
    let i = item_of c.in-Some.o in
    let counts = sym (mine_by a.f a.wanted i c.rule_of-rule.ensures) ∙ sym c.is_mine.ensures ∙ c.if-is_mine.true in
    finds_last a.f a.wanted c.loop-o.invariant (ap (λ (w : Walk). w.items) c.in-Some.ensures.steps) counts
    (sym c.last_counts.ensures ∙ c.if-not-last_counts.false)
    (part_found c.in-Some.o c.part-then-is_mine.result c.part-then-is_mine.ensures.at c.part-then-is_mine.ensures.len)

pub loop-o-preserved : goal.loop-o-preserved
loop-o-preserved c = let a = c.args in
    let i = item_of c.in-Some.o in
    let other = sym (mine_by a.f a.wanted i c.rule_of-rule.ensures) ∙ sym c.is_mine.ensures ∙ c.if-is_mine.false in
    finds_other a.f a.wanted c.loop-o.invariant (ap (λ (w : Walk). w.items) c.in-Some.ensures.steps) other

pub returns : goal.returns
returns c = let a = c.args in
    finds_end a.f a.wanted c.loop-o.invariant (ap (λ (w : Walk). w.items) c.in_default.ensures.steps.0)
