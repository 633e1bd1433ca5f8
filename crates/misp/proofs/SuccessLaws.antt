-- The success message: its objects as runs, and its fields as the values of objects.
use Prim.Native.Nat.{ℕ}
use mathlib.Core.Path.{◌≡◌, refl, ◌∙◌}
use mathlib.Core.Bool.{true}
use mathlib.Core.List.{List, [], ◌∷◌, append-nil}
use native.Mathlib.Omega.{arith}
use lib.Dec.{lit≤}
use lib.ListN.{length}
use Rattle.octets.specs.Numbers.{bytes_of}
use Rattle.object.specs.declared.family.Family.TheVariants.{Misp}
use Rattle.object.specs.Rule.{rule_of, rule_of_misp}
use Rattle.message.specs.Reading.{vetted, by_vetted}
use Rattle.message.specs.Field.{value_in, optional_in, flag_in, number_in}
use Rattle.message.specs.Writing.{perhaps, optional_value, is_list, flag_byte}
use Rattle.message.proofs.RunLaws.{Run, run, one, RunsProper, runs_size}
use Rattle.message.proofs.CarriedLaws.{Form}
use Rattle.message.proofs.PartLaws.{at_part}
use Rattle.message.proofs.ToldLaws.{told_vetted}
use Rattle.message.proofs.ValueLaws.{proper_any, proper_number, proper_list, optional_size, proper_optional}
use Rattle.std.specs.Prelude.{Ok, Err}
use Rattle.misp.specs.Success.{success_types, success_at, read_success, SuccessValues, success_values, success_told, success_bytes}

-- all objects in the writer's order
abbrev pub success_runs : SuccessValues → List Run
success_runs v =
    one 2 (bytes_of 8 v.stamp) ∷ one 15 (bytes_of 2 v.lifetime) ∷ one 5 v.check ∷ one 21 v.layers
    ∷ run 3 (perhaps (optional_value 4 v.local)) ∷ run 4 (perhaps (optional_value 4 v.remote)) ∷ []

-- its bytes are the message of these, and not too many
pub success_form : (v : SuccessValues) → Form Misp 4 (flag_byte v.s) (success_runs v) (success_bytes v)
unfolding success_bytes bytes_of
success_form v = record {
  is = rw append-nil;
  room = omega (arith, runs_size (success_runs v), optional_size 4 v.local, optional_size 4 v.remote);
}

-- with a check value of 16 bytes, and a list of 16-bit layers
pub success_proper : (v : SuccessValues) → length v.check ≡ 16 → is_list 2 v.layers ≡ true → RunsProper Misp (success_runs v)
unfolding rule_of rule_of_misp
success_proper v check layers = (
  (proper_number 8 v.stamp refl (lit≤ tt), tt),
  (
    (proper_number 2 v.lifetime refl (lit≤ tt), tt),
    (
      (proper_any refl (omega arith), tt),
      (
        (proper_list 2 v.layers layers refl, tt),
        (
          proper_optional Misp 3 4 v.local refl (lit≤ tt),
          (proper_optional Misp 4 4 v.remote refl (lit≤ tt), tt),
        ),
      ),
    ),
  ),
)

-- the fields as the values of the objects that count
unfoldable pub success_in : ℕ → List ℕ → SuccessValues
success_in end m =
    success_values (flag_in m) (number_in Misp 2 8 end m) (number_in Misp 15 2 end m)
    (value_in Misp 5 end m) (value_in Misp 21 end m) (optional_in Misp 3 end m) (optional_in Misp 4 end m)

-- what the reader's answer says is these fields, or its refusal
pub success_told_law : (m : List ℕ)
    → success_told m (read_success m) ≡ by_vetted (vetted Misp 4 success_types m) Err λ end. Ok (success_in end m)
unfolding success_told read_success success_at success_in
success_told_law m =
    told_vetted (success_told m) (vetted Misp 4 success_types m) Err (λ end. Ok (success_at end m)) ∙ simp at_part
