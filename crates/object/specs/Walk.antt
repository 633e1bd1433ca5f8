-- The objects of a message (the paper, 'Objects follow: ..'), where an object is broken (refusal 4), and the object of a type that counts.
use Rattle.std.specs.Prelude.{ℕ, zero, suc, ◌+◌, ◌-◌, Bool, true, false, List, [], ◌∷◌, length, take, drop, nat_lt, slice_index, ◌==◌, Result, Option, Ok, Err, Some, None, ⊤}
use Rattle.octets.specs.declared.part.Part.{Part}
use Rattle.octets.specs.Choice.{pick, both}
use Rattle.object.specs.declared.family.Family.{Family}
use Rattle.object.specs.declared.walk.Piece.{Piece}
use Rattle.object.specs.declared.walk.Piece.TheVariants.{End, Padding, Object, Broken}
use Rattle.object.specs.Family.{header_of, padded_in, last_in}
use Rattle.object.specs.Rule.{rule_of, counts_for}

-- what stands at the start of a tail: Type, Length (counting both bytes), value; type 0 may be padding
unfoldable pub piece_of : Bool → List ℕ → Piece
piece_of padding l =
    pick (length l == 0) End
    (pick (both (slice_index l 0 == 0) padding) Padding
    (pick (nat_lt (length l) 2) Broken
    (pick (nat_lt (slice_index l 1) 2) Broken
    (pick (nat_lt (length l) (slice_index l 1)) Broken
    (Object (slice_index l 0) (slice_index l 1))))))

-- an object that is no padding: its type, and its value with the offset in the message at which that stands
pub record Item : Type 0 where
  pub kind : ℕ
  pub at : ℕ
  pub value : List ℕ

-- the objects up to the end, or up to one that is broken
pub record Walk : Type 0 where
  pub items : List Item
  pub ends : Result ⊤ ℕ

-- no object is broken
abbrev pub is_whole : Result ⊤ ℕ → Bool
is_whole (Ok _) = true
is_whole (Err at) = false

-- an object before those that follow it
abbrev pub onto : Item → Walk → Walk
onto i w = record { items = i ∷ w.items; ends = w.ends }

-- each object is read from the tail that starts where the last ended
abbrev pub after : Piece → ℕ → List ℕ → (ℕ → List ℕ → Walk) → Walk
after End at l go = record { items = []; ends = Ok tt }
after Padding at l go = go (at + 1) (drop 1 l)
after (Object t n) at l go = onto (record { kind = t; at = at + 2; value = take (n - 2) (drop 2 l) }) (go (at + n) (drop n l))
after Broken at l go = record { items = []; ends = Err at }

-- at most f steps, from the tail l that starts at the offset at
abbrev pub walk_by : Bool → ℕ → ℕ → List ℕ → Walk
walk_by padding zero at l = record { items = []; ends = Ok tt }
walk_by padding (suc f) at l = after (piece_of padding l) at l (walk_by padding f)

-- each step takes a byte or more, so there are no more steps than bytes, and one for the end
unfoldable pub walk_from : Bool → ℕ → List ℕ → Walk
walk_from padding at l = walk_by padding (suc (length l)) at l

-- the walk over what follows a message's header
unfoldable pub walk_of : Family → List ℕ → Walk
walk_of f body = walk_from (padded_in f) (header_of f) body

-- an object of the type t that its rule lets count; others are passed over
unfoldable pub mine : Family → ℕ → Item → Bool
mine f t i = both (i.kind == t) (counts_for (rule_of f t) i.value)

-- the first of two that is there
abbrev pub or_else : Option Item → Option Item → Option Item
or_else None b = b
or_else (Some i) b = Some i

-- the earlier of two, or with `last` the later
abbrev pub join : Bool → Option Item → Option Item → Option Item
join true a b = or_else b a
join false a b = or_else a b

-- of several of one type the first counts, or the last
unfoldable pub one_of : Family → ℕ → List Item → Option Item
one_of f t [] = None
one_of f t (i ∷ is) = join (last_in f) (pick (mine f t i) (Some i) None) (one_of f t is)

-- all of one type, in their order
unfoldable pub all_of : Family → ℕ → List Item → List Item
all_of f t [] = []
all_of f t (i ∷ is) = pick (mine f t i) (i ∷ all_of f t is) (all_of f t is)

-- the one at place n of a list
unfoldable pub nth_of : ℕ → List Item → Option Item
nth_of n [] = None
nth_of zero (i ∷ is) = Some i
nth_of (suc n) (i ∷ is) = nth_of n is

-- an object as the code answers it: where its value stands, and how long it is
unfoldable pub found_of : Option Item → Option Part
found_of None = None
found_of (Some i) = Some (record { at = i.at; len = length i.value })
