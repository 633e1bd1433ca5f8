-- The terminating message (document 000, 4.5.6; the paper: terminating 9; mandatory 2, 5; document 000: optional 13).
use Rattle.std.specs.Prelude.{ℕ, ◌^◌, Bool, List, [], ◌∷◌, Result, Ok, Err, Option}
use Rattle.refusal.specs.declared.Refusal.{Refusal}
use Rattle.object.specs.declared.family.Family.TheVariants.{Misp}
use Rattle.message.specs.Reading.{vetted, by_vetted}
use Rattle.octets.specs.Part.{bytes_at}
use Rattle.message.specs.Field.{number_in, flag_in, part_in, optional_in}
use Rattle.message.specs.Writing.{object, number_object, optional_object, encoded, message_of, flag_byte, is_below}
use Rattle.misp.specs.declared.terminating.Terminating.{Terminating}

-- the paper: terminating 2, 5
abbrev pub terminating_types : List ℕ
terminating_types = 2 ∷ 5 ∷ []

-- the fields, the check value as a part of the message
unfoldable pub terminating_at : ℕ → List ℕ → Terminating
terminating_at end m =
    record {
      s = flag_in m;
      stamp = number_in Misp 2 8 end m;
      check = part_in Misp 5 end m;
      reason = optional_in Misp 13 end m;
    }

-- the fields, or 1 to 6
unfoldable pub read_terminating : List ℕ → Result Terminating Refusal
read_terminating m = by_vetted (vetted Misp 9 terminating_types m) Err λ end. Ok (terminating_at end m)

-- the fields as values
pub record TerminatingValues : Type 0 where
  pub s : Bool
  pub stamp : ℕ
  pub check : List ℕ
  pub reason : Option ℕ

-- the same, field by field
abbrev pub terminating_values : Bool → ℕ → List ℕ → Option ℕ → TerminatingValues
terminating_values s stamp check reason = record { s = s; stamp = stamp; check = check; reason = reason }

-- the values: the bytes of a reader's parts of the message m
abbrev pub terminating_from : List ℕ → Terminating → TerminatingValues
terminating_from m r = terminating_values r.s r.stamp (bytes_at m r.check) r.reason

-- what a reader's answer says of the message m: its number, or these values
unfoldable pub terminating_told : List ℕ → Result Terminating Refusal → Result TerminatingValues Refusal
terminating_told m (Err why) = Err why
terminating_told m (Ok r) = Ok (terminating_from m r)

-- mandatory objects in the paper's order, then the optional one
unfoldable pub terminating_bytes : TerminatingValues → List ℕ
terminating_bytes v =
    message_of Misp 9 (flag_byte v.s) (encoded (number_object 2 8 v.stamp ∷ object 5 v.check ∷ optional_object 13 2 v.reason))

-- refusal 18 where this fails (DECISIONS, 19)
unfoldable pub terminating_in_range : TerminatingValues → Bool
terminating_in_range v = is_below v.reason (2 ^ 16)
