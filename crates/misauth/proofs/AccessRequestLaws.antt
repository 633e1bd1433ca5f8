-- The access request: its objects as runs, and its fields as the values of objects.
use Prim.Native.Nat.{ℕ, ◌+◌, ◌≤◌}
use mathlib.Core.Path.{◌≡◌, refl, ap, ◌∙◌}
use mathlib.Core.Bool.{true}
use mathlib.Core.List.{List, [], ◌∷◌, append-nil}
use native.Mathlib.Omega.{arith}
use lib.Dec.{lit≤}
use lib.ListN.{length, get_or}
use Rattle.std.specs.Prelude.{Ok, Err, Option, Some, None}
use Rattle.octets.specs.Numbers.{bytes_of}
use Rattle.object.specs.declared.family.Family.TheVariants.{Misauth}
use Rattle.object.specs.Family.{limit_of}
use Rattle.object.specs.Rule.{rule_of, rule_of_misauth}
use Rattle.object.specs.Walk.{Item, found_of}
use Rattle.position.specs.Position.{position_of, position_bytes}
use Rattle.position.proofs.PositionLaws.{position_length}
use Rattle.message.specs.Reading.{length_of, value_of, vetted, by_vetted}
use Rattle.message.specs.Field.{object_in, value_in, optional_in, number_in}
use Rattle.message.specs.Writing.{perhaps, optional_value, encoded, is_name, is_list}
use Rattle.message.proofs.ObjectLaws.{object_size, object_length, encoded_one}
use Rattle.message.proofs.RunLaws.{Run, run, one, RunProper, RunsProper}
use Rattle.message.proofs.CarriedLaws.{Form, form_of}
use Rattle.message.proofs.PartLaws.{part_holds, at_part}
use Rattle.message.proofs.ToldLaws.{told_vetted}
use Rattle.message.proofs.ValueLaws.{proper_any, proper_fixed, proper_number, list_short, proper_list, name_short, proper_optional, EachFits, EachOf, each_any, each_fixed}
use Rattle.misauth.specs.Run.{repeats_in}
use Rattle.misauth.specs.AccessRequest.{access_request_types, groups_field_of, groups_in, access_request_at, read_access_request, AccessRequestValues, groups_told, access_request_told, groups_object, access_request_bytes, groups_in_range}

-- groups that are missing or in range are such as a message can hold
groups_proper : (o : Option (List ℕ)) → groups_in_range o ≡ true → RunProper Misauth 206 (perhaps o)
unfolding rule_of rule_of_misauth
groups_proper None h = tt
groups_proper (Some v) h = (proper_list 4 v h refl, tt)

-- how many bytes object 206 takes
pub groups_length : (v : List ℕ) → is_list 4 v ≡ true → length (encoded (groups_object (Some v))) ≡ 2 + length v
groups_length v h = ap length (encoded_one 206 v) ∙ object_size 206 v (list_short 4 v h)

-- and how many at most, whatever they are
pub groups_most : (o : Option (List ℕ)) → length (encoded (groups_object o)) ≤ 255
unfolding encoded
groups_most None = lit≤ tt
groups_most (Some v) = rw append-nil (object_length 206 v)

-- where they stand
pub groups_place : (o : Option Item) → found_of o ≡ groups_field_of o
unfolding found_of
groups_place None = refl
groups_place (Some i) = refl

-- the bytes of their part are the value of the object that counts
groups_value : (end : ℕ) (m : List ℕ) → groups_told m (groups_in end m) ≡ value_of (object_in Misauth 206 end m)
unfolding groups_in
groups_value end m = go (object_in Misauth 206 end m) refl
  where
    go : (o : Option Item) → object_in Misauth 206 end m ≡ o → groups_told m (groups_field_of o) ≡ value_of o
    go None e = refl
    go (Some i) e = ap Some (part_holds Misauth 206 end m (Some i) e)

-- all objects in the writer's order
abbrev pub access_request_runs : AccessRequestValues → List Run
access_request_runs v =
    one 1 v.account ∷ one 200 v.authentication ∷ one 201 v.check ∷ one 202 v.seed ∷ one 205 (bytes_of 2 v.security)
    ∷ one 204 (position_bytes v.position) ∷ run 4 (perhaps (optional_value 4 v.router)) ∷ run 33 v.proxies ∷ run 95 v.sixes
    ∷ run 206 (perhaps v.groups) ∷ []

-- its bytes are the message of these
pub access_request_form : (v : AccessRequestValues) → length (access_request_bytes v) ≤ limit_of Misauth
    → Form Misauth 1 v.identifier (access_request_runs v) (access_request_bytes v)
unfolding access_request_bytes
access_request_form v = form_of (rw append-nil)

-- with a name, three values of 16 bytes, proxy objects that fit, IPv6 addresses of 16 bytes, and a list of groups or none
pub access_request_proper : (v : AccessRequestValues) → is_name v.account ≡ true → length v.authentication ≡ 16 → length v.check ≡ 16
    → length v.seed ≡ 16 → EachFits v.proxies → EachOf 16 v.sixes → groups_in_range v.groups ≡ true
    → RunsProper Misauth (access_request_runs v)
unfolding rule_of rule_of_misauth
access_request_proper v account authentication check seed proxies sixes groups = (
  (proper_any refl (name_short v.account account), tt),
  (
    (proper_any refl (omega arith), tt),
    (
      (proper_any refl (omega arith), tt),
      (
        (proper_any refl (omega arith), tt),
        (
          (proper_number 2 v.security refl (lit≤ tt), tt),
          (
            (proper_fixed 12 refl (position_length v.position) (lit≤ tt), tt),
            (
              proper_optional Misauth 4 4 v.router refl (lit≤ tt),
              (
                each_any Misauth 33 v.proxies refl proxies,
                (each_fixed Misauth 95 16 v.sixes refl (lit≤ tt) sixes, (groups_proper v.groups groups, tt)),
              ),
            ),
          ),
        ),
      ),
    ),
  ),
)

-- the fields as the values of the objects that count
unfoldable pub access_request_in : ℕ → List ℕ → AccessRequestValues
access_request_in end m =
    record {
      identifier = get_or m 1 0;
      account = value_in Misauth 1 end m;
      authentication = value_in Misauth 200 end m;
      check = value_in Misauth 201 end m;
      seed = value_in Misauth 202 end m;
      security = number_in Misauth 205 2 end m;
      position = position_of (value_in Misauth 204 end m);
      router = optional_in Misauth 4 end m;
      proxies = repeats_in 33 (length_of m) m;
      sixes = repeats_in 95 (length_of m) m;
      groups = value_of (object_in Misauth 206 end m);
    }

-- what the reader's answer says is these fields, or its refusal
pub access_request_told_law : (m : List ℕ)
    → access_request_told m (read_access_request m)
    ≡ by_vetted (vetted Misauth 1 access_request_types m) Err λ end. Ok (access_request_in end m)
unfolding access_request_told read_access_request access_request_at access_request_in
access_request_told_law m =
    told_vetted (access_request_told m) (vetted Misauth 1 access_request_types m) Err (λ end. Ok (access_request_at end m))
    ∙ simp (at_part, groups_value)
