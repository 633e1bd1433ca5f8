-- The terminating message: its objects as runs, and its fields as the values of objects.
use Prim.Native.Nat.{ℕ}
use mathlib.Core.Path.{◌≡◌, refl, ◌∙◌}
use mathlib.Core.List.{List, [], ◌∷◌, append-nil}
use native.Mathlib.Omega.{arith}
use lib.Dec.{lit≤}
use lib.ListN.{length}
use Rattle.octets.specs.Numbers.{bytes_of}
use Rattle.object.specs.declared.family.Family.TheVariants.{Misp}
use Rattle.object.specs.Rule.{rule_of, rule_of_misp}
use Rattle.message.specs.Reading.{vetted, by_vetted}
use Rattle.message.specs.Field.{value_in, optional_in, flag_in, number_in}
use Rattle.message.specs.Writing.{perhaps, optional_value, flag_byte}
use Rattle.message.proofs.RunLaws.{Run, run, one, RunsProper, runs_size}
use Rattle.message.proofs.CarriedLaws.{Form}
use Rattle.message.proofs.PartLaws.{at_part}
use Rattle.message.proofs.ToldLaws.{told_vetted}
use Rattle.message.proofs.ValueLaws.{proper_any, proper_number, optional_size, proper_optional}
use Rattle.std.specs.Prelude.{Ok, Err}
use Rattle.misp.specs.Terminating.{terminating_types, terminating_at, read_terminating, TerminatingValues, terminating_values, terminating_told, terminating_bytes}

-- all objects in the writer's order
abbrev pub terminating_runs : TerminatingValues → List Run
terminating_runs v = one 2 (bytes_of 8 v.stamp) ∷ one 5 v.check ∷ run 13 (perhaps (optional_value 2 v.reason)) ∷ []

-- its bytes are the message of these, and not too many
pub terminating_form : (v : TerminatingValues) → Form Misp 9 (flag_byte v.s) (terminating_runs v) (terminating_bytes v)
unfolding terminating_bytes bytes_of
terminating_form v = record {
  is = rw append-nil;
  room = omega (arith, runs_size (terminating_runs v), optional_size 2 v.reason);
}

-- with a check value of 16 bytes
pub terminating_proper : (v : TerminatingValues) → length v.check ≡ 16 → RunsProper Misp (terminating_runs v)
unfolding rule_of rule_of_misp
terminating_proper v check = (
  (proper_number 8 v.stamp refl (lit≤ tt), tt),
  ((proper_any refl (omega arith), tt), (proper_optional Misp 13 2 v.reason refl (lit≤ tt), tt)),
)

-- the fields as the values of the objects that count
unfoldable pub terminating_in : ℕ → List ℕ → TerminatingValues
terminating_in end m =
    terminating_values (flag_in m) (number_in Misp 2 8 end m) (value_in Misp 5 end m) (optional_in Misp 13 end m)

-- what the reader's answer says is these fields, or its refusal
pub terminating_told_law : (m : List ℕ)
    → terminating_told m (read_terminating m) ≡ by_vetted (vetted Misp 9 terminating_types m) Err λ end. Ok (terminating_in end m)
unfolding terminating_told read_terminating terminating_at terminating_in
terminating_told_law m =
    told_vetted (terminating_told m) (vetted Misp 9 terminating_types m) Err (λ end. Ok (terminating_at end m)) ∙ simp at_part
