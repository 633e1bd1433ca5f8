-- The iterator over a message's objects, by the walk.
use Rattle.std.specs.Prelude.{◌≡◌, List, [], length, filter, ◌==◌, Option, MatchOption, Ok, Err}
use Rattle.octets.specs.Choice.{pick, both}
use Rattle.object.specs.Rule.{counts_for}
use Rattle.object.specs.Walk as walk
use Rattle.object.specs.declared.objects.Item.{Item}
use Rattle.object.specs.declared.objects.Objects.{Objects}
use Rattle.object.specs.declared.objects.Mine.{Mine}

-- an object as the definitions have it
abbrev pub item_of : Item → walk.Item
item_of i = record { kind = i.kind; at = i.at; value = i.value.now }

-- the walk that is left
abbrev pub walk_left : Objects → walk.Walk
walk_left o = walk.walk_from o.padding o.at o.rest.now

-- its objects
abbrev pub objects_left : Objects → List walk.Item
objects_left o = (walk_left o).items

-- once `next` gave `None`: the message ends here, or an object is broken that starts here
abbrev pub ended : Objects → walk.Walk
ended o = record { items = []; ends = pick ((length o.rest.now) == 0) (Ok tt) (Err o.at) }

-- a call of `next` gave the first object of the walk, or came to its end
abbrev pub GivesObject : Objects → Option Item → Objects → Type 0
GivesObject s r t = MatchOption r ((walk_left s ≡ ended t) × (walk_left t ≡ ended t)) (λ x. walk_left s ≡ walk.onto (item_of x) (walk_left t))

-- those of one type that count
abbrev pub mine_left : Mine → List walk.Item
mine_left m = filter (λ i. both (i.kind == m.wanted) (counts_for m.rule i.value)) (objects_left m.objects)
