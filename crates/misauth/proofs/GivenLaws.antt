-- What the writer of access requests is given, where its tests pass: what they say, how long the message is, and that a run is the objects of its
-- values, so that the objects as they are written are those of the message.
use Rattle.std.specs.Prelude.{Option}
use Prim.Native.Nat.{ℕ, ◌+◌}
use mathlib.Core.Path.{◌≡◌, ap, ◌∙◌}
use mathlib.Core.Bool.{true}
use mathlib.Core.List.{List, [], ◌∷◌, ◌++◌, append_assoc, append-nil}
use native.Mathlib.Omega.{arith}
use lib.ListN.{length, length-append}
use Rattle.octets.proofs.ChoiceLaws.{in_turn}
use Rattle.octets.specs.Choice.{both}
use Rattle.octets.specs.Numbers.{Bytes, bytes_of}
use Rattle.octets.proofs.NumberLaws.{bytes_length}
use Rattle.position.specs.Position.{in_range, position_bytes}
use Rattle.position.proofs.PositionLaws.{position_length}
use Rattle.object.specs.declared.family.Family.TheVariants.{Misauth}
use Rattle.message.specs.Writing.{Object, object_bytes, object, number_object, optional_object, repeats, encoded, message_of, is_name, is_below}
use Rattle.message.proofs.ObjectLaws.{object_size}
use Rattle.message.proofs.ValueLaws.{name_short}
use Rattle.message.proofs.WritingLaws.{message_length, encoded_append}
use Rattle.misauth.specs.declared.request.AccessRequestFields.{AccessRequestFields}
use Rattle.misauth.specs.Run.{is_run, run_values}
use Rattle.misauth.specs.AccessRequest.{groups_object, access_request_bytes, groups_in_range, access_request_in_range, runs_in_range, access_request_given, given_in_range}
use Rattle.misauth.proofs.GivenRunLaws.{run_bytes}

-- the mandatory objects
abbrev pub mandatory_given : AccessRequestFields → List ℕ → List Object
mandatory_given fields account =
    object 1 account ∷ object 200 fields.authentication ∷ object 201 fields.check ∷ object 202 fields.seed
    ∷ number_object 205 2 fields.security ∷ object 204 (position_bytes fields.position) ∷ []

module _ (fields : AccessRequestFields) (account proxies sixes : List ℕ) (groups : Option (List ℕ)) where
  -- the objects in the order in which they are put
  abbrev pub objects_given : List Object
  objects_given =
      mandatory_given fields account ++ optional_object 4 4 fields.router ++ repeats 33 (run_values proxies) ++ repeats 95 (run_values sixes)
      ++ groups_object groups

  -- the bytes are those of these objects
  pub given_objects : access_request_bytes (access_request_given fields account proxies sixes groups)
      ≡ message_of Misauth 1 fields.identifier (encoded objects_given)
  unfolding access_request_bytes access_request_given
  given_objects = simp append_assoc

  -- what the tests say
  module _ (range : given_in_range fields account proxies sixes groups ≡ true) where
    tests : (access_request_in_range (access_request_given fields account proxies sixes groups) ≡ true) × (runs_in_range proxies sixes ≡ true)
    unfolding given_in_range
    tests = in_turn _ _ range

    pub given_name : is_name account ≡ true
    unfolding access_request_in_range access_request_given
    given_name = (in_turn (is_name account) _ tests.0).0

    pub given_groups : groups_in_range groups ≡ true
    unfolding access_request_in_range access_request_given
    given_groups =
        let from_router = both (is_below fields.router 0x100000000) (groups_in_range groups) in
        let (name, rest) = in_turn (is_name account) (both (in_range fields.position) from_router) tests.0 in
        let (position, rest) = in_turn (in_range fields.position) from_router rest in
        (in_turn (is_below fields.router 0x100000000) (groups_in_range groups) rest).1

    -- both runs are runs of their types
    pub given_repeats : (is_run 33 proxies ≡ true) × (is_run 95 sixes ≡ true)
    unfolding runs_in_range
    given_repeats = in_turn (is_run 33 proxies) (is_run 95 sixes) tests.1

    mandatory_length : length fields.authentication ≡ 16 → length fields.check ≡ 16 → length fields.seed ≡ 16
        → length (encoded (mandatory_given fields account)) ≡ 74 + length account
    unfolding encoded
    mandatory_length authentication check seed =
        let short = name_short account given_name in
        let position = position_length fields.position in
        let number = bytes_length 2 fields.security in
        simp length-append
        (rw (
          object_size 1 account short,
          object_size 200 fields.authentication (omega arith),
          object_size 201 fields.check (omega arith),
          object_size 202 fields.seed (omega arith),
          object_size 205 (bytes_of 2 fields.security) (omega arith),
          object_size 204 (position_bytes fields.position) (omega arith),
        ) (omega arith))

    module _ (p : Bytes proxies) (s : Bytes sixes) where
      -- by parts
      pub given_length : length (access_request_bytes (access_request_given fields account proxies sixes groups))
          ≡ 20 + length (encoded (mandatory_given fields account ++ optional_object 4 4 fields.router)) + length proxies + length sixes
          + length (encoded (groups_object groups))
      given_length =
          ap length given_objects
          ∙ message_length Misauth 1 fields.identifier (encoded objects_given)
          ∙ simp (encoded_append, length-append, run_bytes 33 proxies given_repeats.0 p, run_bytes 95 sixes given_repeats.1 s) (omega arith)

      -- by numbers
      pub given_whole : length fields.authentication ≡ 16 → length fields.check ≡ 16 → length fields.seed ≡ 16
          → length (access_request_bytes (access_request_given fields account proxies sixes groups))
          ≡ 94 + length account + length (encoded (optional_object 4 4 fields.router)) + length (encoded (groups_object groups))
          + length proxies + length sixes
      given_whole authentication check seed =
          let mandatory = mandatory_length authentication check seed in
          let optional = optional_object 4 4 fields.router in
          given_length ∙ simp (encoded_append (mandatory_given fields account) optional, length-append) (omega arith)

module _ (fields : AccessRequestFields) (account proxies sixes : List ℕ) (groups : Option (List ℕ)) (p : Bytes proxies) (s : Bytes sixes) where
  -- the message is that of the objects as they are written
  pub given_bytes : {number : ℕ} {place router listed : List ℕ} → number ≡ fields.security → place ≡ position_bytes fields.position
      → router ≡ encoded (optional_object 4 4 fields.router) → listed ≡ encoded (groups_object groups)
      → given_in_range fields account proxies sixes groups ≡ true
      → message_of Misauth 1 fields.identifier
      (object_bytes 1 account ++ (object_bytes 200 fields.authentication ++ (object_bytes 201 fields.check ++ (object_bytes 202 fields.seed
      ++ (object_bytes 205 (bytes_of 2 number) ++ (object_bytes 204 place ++ (router ++ (proxies ++ (sixes ++ (listed ++ []))))))))))
      ≡ access_request_bytes (access_request_given fields account proxies sixes groups)
  unfolding access_request_bytes access_request_given encoded
  given_bytes {listed = listed} n e r g range =
      let (proxy, six) = given_repeats fields account proxies sixes groups range in
      rw (append-nil listed, n, e, r, g) (simp (encoded_append, run_bytes 33 proxies proxy p, run_bytes 95 sixes six s))
