-- Objects that repeat: the values of a run, in their order, are the values that a reader meets.
use Prim.Native.Nat.{ℕ, ◌+◌}
use mathlib.Core.Path.{◌≡◌, refl, ap, ◌∙◌}
use mathlib.Core.Bool.{Bool, true, false}
use mathlib.Core.List.{List, [], ◌∷◌}
use lib.Dec.{eqb}
use lib.ListN.{length}
use Rattle.octets.specs.Choice.{pick}
use Rattle.object.specs.declared.family.Family.TheVariants.{Misauth}
use Rattle.object.specs.Family.{header_of}
use Rattle.object.specs.Walk.{Item, all_of}
use Rattle.message.specs.Reading.{length_of}
use Rattle.message.specs.Writing.{Object}
use Rattle.message.proofs.EncodedLaws.{AllProper, items_from, given, mine_proper}
use Rattle.message.proofs.RunLaws.{Run, in_runs, values_in, given_runs, runs_proper}
use Rattle.message.proofs.CarriedLaws.{Carries, walk_carried, carried_body}
use Rattle.misauth.specs.Run.{values_of, repeats_in}

values_pick : (b : Bool) (i : Item) (is : List Item) → values_of (pick b (i ∷ is) is) ≡ pick b (i.value ∷ values_of is) (values_of is)
values_pick true i is = refl
values_pick false i is = refl

all_given_law : (t at : ℕ) (os : List Object) → AllProper Misauth os → values_of (all_of Misauth t (items_from at os)) ≡ given t os
unfolding all_of
all_given_law t at [] h = refl
all_given_law t at (o ∷ os) h =
    let to : ℕ = at + 2 + length o.value in
    let item : Item = record { kind = o.kind; at = at + 2; value = o.value } in
    rw (mine_proper Misauth t (at + 2) o h.0)
    (values_pick (eqb o.kind t) item (all_of Misauth t (items_from to os))
    ∙ ap (λ (l : List (List ℕ)). pick (eqb o.kind t) (o.value ∷ l) l) (all_given_law t to os h.1))

-- the values that repeat in a written message are those of its runs
pub carried_repeats : {code second : ℕ} {rs : List Run} {m : List ℕ} → Carries Misauth code second rs m → (t : ℕ)
    → repeats_in t (length_of m) m ≡ values_in t rs
unfolding repeats_in
carried_repeats {code} {second} {rs} {m} c t =
    rw (carried_body c, walk_carried Misauth rs c.proper)
    (all_given_law t (header_of Misauth) (in_runs rs) (runs_proper Misauth rs c.proper) ∙ given_runs t rs)
