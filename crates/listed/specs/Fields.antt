-- The objects that the fields of a message stand for, as the code holds them: what its private functions are held to (DECISIONS, 57).
use Rattle.std.specs.Prelude.{ℕ, List, [], ◌∷◌, ◌++◌, take, Result, Ok, Err}
use Rattle.refusal.specs.declared.Refusal.{Refusal}
use Rattle.octets.specs.Part.{bytes_at}
use Rattle.message.specs.Reading.{length_of}
use Rattle.message.specs.Writing.{Object, object, repeats}
use Rattle.misauth.specs.Run.{repeats_in}
use Rattle.listed.specs.declared.fields.Field.{Field}
use Rattle.listed.specs.declared.fields.Field.TheVariants.{Missing, Own, Part, Run}
use Rattle.listed.specs.declared.fields.Listed.{Listed}
use Rattle.listed.specs.Text.{refusal_text, message_text}

-- none, a field with a value of its own, with a part of the message m, or with the objects of m that repeat
abbrev pub objects_of : List ℕ → Field → List Object
objects_of m Missing = []
objects_of m (Own kind bytes len) = object kind (take len bytes) ∷ []
objects_of m (Part kind part) = object kind (bytes_at m part) ∷ []
objects_of m (Run kind) = repeats kind (repeats_in kind (length_of m) m)

-- those of each field, in their order
abbrev pub all_objects : List ℕ → List Field → List Object
all_objects m [] = []
all_objects m (f ∷ fs) = objects_of m f ++ all_objects m fs

-- what is printed of the message m: its refusal, or its code, its second number and its fields
abbrev pub listing_text : List ℕ → Result Listed Refusal → List ℕ
listing_text m (Err why) = refusal_text why
listing_text m (Ok l) = message_text l.code l.second (all_objects m l.fields)
