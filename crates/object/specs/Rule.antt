-- The rule of each type, and the objects that count (the paper, the table of types; 'An object of another length is passed over').
use Rattle.std.specs.Prelude.{ℕ, ◌+◌, ◌-◌, ◌%◌, Bool, true, false, List, [], ◌∷◌, length, nat_le, nat_lt, slice_index, slice_index_or, ◌==◌}
use Rattle.octets.specs.Choice.{pick, both}
use Rattle.object.specs.declared.family.Family.{Family}
use Rattle.object.specs.declared.family.Family.TheVariants.{Misp, Misauth}
use Rattle.object.specs.declared.rule.Rule.{Rule}
use Rattle.object.specs.declared.rule.Rule.TheVariants.{Fixed, Any, List as ListOf, Flag, Unknown}

-- the table of the paper, from type 0 on; a list has any number of elements (DECISIONS, 1); 11 is a filter, one byte that is 0 or 1 (document 001, 4.4.10)
abbrev pub rules_of_misp : List Rule
rules_of_misp =
    Unknown ∷ Unknown ∷ Fixed 10 ∷ Fixed 6 ∷ Fixed 6 ∷ Any ∷ Any ∷ Unknown ∷ Any ∷ Fixed 14 ∷ Fixed 3 ∷ Flag ∷ Unknown ∷ Fixed 4
    ∷ ListOf 4 ∷ Fixed 4 ∷ Fixed 4 ∷ Fixed 4 ∷ ListOf 2 ∷ Fixed 8 ∷ Fixed 3 ∷ ListOf 2 ∷ []

-- document 003, 4.5 to 4.11: from type 200 on
abbrev pub rules_from_200 : List Rule
rules_from_200 = Any ∷ Any ∷ Any ∷ Any ∷ Fixed 14 ∷ Fixed 4 ∷ ListOf 4 ∷ []

-- 'Type decides which rule of the table applies'; a type that the table does not have counts nowhere
unfoldable pub rule_of_misp : ℕ → Rule
rule_of_misp t = slice_index_or rules_of_misp t Unknown

-- document 003, 4.1 to 4.4 and from 200 on; 4 and 95 have their lengths (DECISIONS, 3)
unfoldable pub rule_of_misauth : ℕ → Rule
rule_of_misauth t =
    pick (t == 1) Any
    (pick (t == 4) (Fixed 6)
    (pick (t == 33) Any
    (pick (t == 95) (Fixed 18)
    (pick (nat_lt t 200) Unknown (slice_index_or rules_from_200 (t - 200) Unknown)))))

-- by the family of the message
unfoldable pub rule_of : Family → ℕ → Rule
rule_of Misp t = rule_of_misp t
rule_of Misauth t = rule_of_misauth t

-- the object with this value has a length that its rule allows (the rule counts the type and the length byte), and a filter one of its values (DECISIONS, 2)
unfoldable pub counts_for : Rule → List ℕ → Bool
counts_for (Fixed n) value = ((2 + length value) == n)
counts_for Any value = true
counts_for (ListOf unit) value = both (nat_lt 0 unit) ((length value % unit) == 0)
counts_for Flag value = both (length value == 1) (nat_le (slice_index value 0) 1)
counts_for Unknown value = false
