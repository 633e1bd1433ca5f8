-- `is_run` meets its contract: `all` reads the objects up to the end, where nothing is left, or to one that is broken.
use mathlib.Core.Path.{◌≡◌, refl, sym, ap, ◌∙◌}
use mathlib.Core.Bool.{Bool, true, false}
use mathlib.Core.List.{List, [], ◌∷◌}
use Prim.Native.Nat.{ℕ}
use denote.Param.Members.{Mut}
use lib.Dec.{eqb}
use lib.ListN.{length}
use borrow.Author.Rules.{rules}
use borrow.Author.Tests.{tests}
use Rattle.std.specs.Prelude.{Option, Some, None, MatchOption, Ok, Err}
use Rattle.std.specs.Fn.{Called}
use Rattle.std.specs.Iterator.{YieldsThen, ChecksAll}
use Rattle.std.specs.List.{list_all}
use Rattle.std.proofs.lemmas.Iterator.Search.{all_from_yields_List}
use Rattle.octets.specs.Choice.{both, every, pick}
use Rattle.octets.proofs.ChoiceLaws.{never, both_none, both_all}
use Rattle.object.specs.declared.family.Family.TheVariants.{Misauth}
use Rattle.object.specs.declared.objects.Item.{Item as Taken}
use Rattle.object.specs.declared.objects.Objects.{Objects}
use Rattle.object.specs.Rule.{counts_for}
use Rattle.object.specs.Objects.{item_of, walk_left, objects_left, GivesObject}
use Rattle.object.specs.Walk.{Item, is_whole, mine}
use Rattle.object.proofs.ChainLaws.{mine_by, objects_chain, all_ended}
use Rattle.misauth.specs.Run.{is_run}
use Rattle.misauth.proofs.run.is_run.Goals as goal

every_all : (test : Item → Bool) (is : List Item) → list_all test is ≡ every test is
unfolding every
every_all test [] = refl
every_all test (i ∷ is) = ap (both (test i)) (every_all test is)

whole_end : (left : Bool) (at : ℕ) → is_whole (pick left (Ok tt) (Err at)) ≡ left
whole_end true at = refl
whole_end false at = refl

at_end : (s u : Objects) {r : Bool} (P : Taken → Type 0) (o : Option Taken) (xs : List Taken) → YieldsThen GivesObject s xs o u
    → MatchOption o (r ≡ true) (λ x. (r ≡ false) × P x) → r ≡ true → eqb (length u.rest.now) 0 ≡ is_whole (walk_left s).ends
at_end s u P None xs h m e = sym (ap is_whole (all_ended s u xs h) ∙ whole_end (eqb (length u.rest.now) 0) u.at)
at_end s u P (Some x) xs h m e = never (sym m.0 ∙ e)

module _ {F : Type 0} {g : Mut F (Taken × Unit {0}) Bool} {s : Objects} (u : Objects) {f : F} {r : Bool} (ran : ChecksAll GivesObject g s f r u)
    (test : Item → Bool) (each : (x : Taken) (b : Bool) (q : F) → Called g f (x, tt) b q → (q ≡ f) × (b ≡ test (item_of x))) where
  answer : r ≡ every test (objects_left s)
  answer = all_from_yields_List test u f r ran (objects_chain s) each ∙ every_all test (objects_left s)

  yes : r ≡ true → eqb (length u.rest.now) 0 ≡ both (is_whole (walk_left s).ends) (every test (objects_left s))
  yes e = rw (sym answer ∙ e) (at_end s u _ ran.1 ran.0 ran.3 ran.5 e ∙ sym (both_all (is_whole (walk_left s).ends)))

  no : r ≡ false → r ≡ both (is_whole (walk_left s).ends) (every test (objects_left s))
  no e = rw (sym answer ∙ e) (e ∙ sym (both_none (is_whole (walk_left s).ends)))

pub returns-then-all : goal.returns-then-all
unfolding is_run
returns-then-all c =
    c.is_empty.ensures ∙ yes c.all.new.self c.all.ensures.ran (mine Misauth c.args.kind)
    (λ x b q k. let h : (q ≡ _) × (b ≡ both (eqb x.kind c.args.kind) (counts_for c.rule_of-rule.result x.value.now)) = search (rules, tests) in
    (h.0, h.1 ∙ mine_by Misauth c.args.kind (item_of x) c.rule_of-rule.ensures)) c.if-all.true

pub returns-else-all : goal.returns-else-all
unfolding is_run
returns-else-all c =
    no c.all.new.self c.all.ensures.ran (mine Misauth c.args.kind)
    (λ x b q k. let h : (q ≡ _) × (b ≡ both (eqb x.kind c.args.kind) (counts_for c.rule_of-rule.result x.value.now)) = search (rules, tests) in
    (h.0, h.1 ∙ mine_by Misauth c.args.kind (item_of x) c.rule_of-rule.ensures)) c.if-all.false
