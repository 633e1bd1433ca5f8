-- The request message: its objects as runs, and its fields as the values of objects.
use Prim.Native.Nat.{ℕ}
use mathlib.Core.Path.{◌≡◌, refl, ◌∙◌}
use mathlib.Core.Bool.{true}
use mathlib.Core.List.{List, [], ◌∷◌, append-nil}
use native.Mathlib.Omega.{arith}
use lib.Dec.{lit≤}
use lib.ListN.{length}
use Rattle.octets.specs.Numbers.{bytes_of}
use Rattle.object.specs.declared.family.Family.TheVariants.{Misp}
use Rattle.object.specs.Rule.{rule_of, rule_of_misp}
use Rattle.message.specs.Reading.{vetted, by_vetted}
use Rattle.message.specs.Field.{value_in, optional_in, flag_in, number_in}
use Rattle.message.specs.Writing.{perhaps, optional_value, is_list, is_name, flag_byte}
use Rattle.message.proofs.RunLaws.{Run, run, one, RunsProper, runs_size}
use Rattle.message.proofs.CarriedLaws.{Form}
use Rattle.message.proofs.PartLaws.{at_part}
use Rattle.message.proofs.ToldLaws.{told_vetted}
use Rattle.message.proofs.ValueLaws.{proper_any, proper_number, proper_list, name_short, optional_size, proper_optional}
use Rattle.std.specs.Prelude.{Ok, Err}
use Rattle.misp.specs.Request.{request_types, request_at, read_request, RequestValues, request_values, request_told, request_bytes}

-- all objects in the writer's order
abbrev pub request_runs : RequestValues → List Run
request_runs v =
    one 2 (bytes_of 8 v.stamp) ∷ one 18 v.security ∷ one 5 v.check ∷ one 6 v.account ∷ one 8 v.seed ∷ one 21 v.layers
    ∷ run 3 (perhaps (optional_value 4 v.local)) ∷ []

-- its bytes are the message of these, and not too many
pub request_form : (v : RequestValues) → Form Misp 3 (flag_byte v.s) (request_runs v) (request_bytes v)
unfolding request_bytes bytes_of
request_form v = record {
  is = rw append-nil;
  room = omega (arith, runs_size (request_runs v), optional_size 4 v.local);
}

-- with a check value and a seed of 16 bytes, two lists of 16-bit numbers, and a name
pub request_proper : (v : RequestValues) → is_list 2 v.security ≡ true → length v.check ≡ 16 → is_name v.account ≡ true
    → length v.seed ≡ 16 → is_list 2 v.layers ≡ true → RunsProper Misp (request_runs v)
unfolding rule_of rule_of_misp
request_proper v security check account seed layers = (
  (proper_number 8 v.stamp refl (lit≤ tt), tt),
  (
    (proper_list 2 v.security security refl, tt),
    (
      (proper_any refl (omega arith), tt),
      (
        (proper_any refl (name_short v.account account), tt),
        (
          (proper_any refl (omega arith), tt),
          (
            (proper_list 2 v.layers layers refl, tt),
            (proper_optional Misp 3 4 v.local refl (lit≤ tt), tt),
          ),
        ),
      ),
    ),
  ),
)

-- the fields as the values of the objects that count
unfoldable pub request_in : ℕ → List ℕ → RequestValues
request_in end m =
    request_values (flag_in m) (number_in Misp 2 8 end m) (value_in Misp 18 end m) (value_in Misp 5 end m)
    (value_in Misp 6 end m) (value_in Misp 8 end m) (value_in Misp 21 end m) (optional_in Misp 3 end m)

-- what the reader's answer says is these fields, or its refusal
pub request_told_law : (m : List ℕ)
    → request_told m (read_request m) ≡ by_vetted (vetted Misp 3 request_types m) Err λ end. Ok (request_in end m)
unfolding request_told read_request request_at request_in
request_told_law m =
    told_vetted (request_told m) (vetted Misp 3 request_types m) Err (λ end. Ok (request_at end m)) ∙ simp at_part
