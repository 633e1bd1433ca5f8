-- Objects that may repeat (the paper: 33 and 95 may repeat; document 003, 5.1), handed over as a run of whole objects (DECISIONS, 25).
use Rattle.std.specs.Prelude.{ℕ, Bool, false, List, [], ◌∷◌, length}
use Rattle.octets.specs.Choice.{both, every}
use Rattle.object.specs.declared.family.Family.TheVariants.{Misauth}
use Rattle.object.specs.Walk.{Item, is_whole, walk_from, walk_of, mine, all_of}
use Rattle.message.specs.Reading.{body_of}

-- whole objects of the type t, of lengths that its rule allows, and nothing else
unfoldable pub is_run : ℕ → List ℕ → Bool
is_run t run = both (is_whole (walk_from false 0 run).ends) (every (mine Misauth t) (walk_from false 0 run).items)

-- the values of objects, in their order
abbrev pub values_of : List Item → List (List ℕ)
values_of [] = []
values_of (i ∷ is) = i.value ∷ values_of is

-- the values of the objects of a run
unfoldable pub run_values : List ℕ → List (List ℕ)
run_values run = values_of (walk_from false 0 run).items

-- how many objects of a repeating type a message has
unfoldable pub count_in : ℕ → ℕ → List ℕ → ℕ
count_in t end m = length (all_of Misauth t (walk_of Misauth (body_of Misauth end m)).items)

-- the values of the objects of a repeating type that a message has, in their order
unfoldable pub repeats_in : ℕ → ℕ → List ℕ → List (List ℕ)
repeats_in t end m = values_of (all_of Misauth t (walk_of Misauth (body_of Misauth end m)).items)
