-- The access request (document 003, 5.1; the paper: request 1; mandatory 1, 200, 201, 202, 205, 204; document 003: optional 4, 33, 95, 206).
use Rattle.std.specs.Prelude.{ℕ, ◌^◌, Bool, true, false, List, [], ◌∷◌, ◌++◌, slice_index, Result, Ok, Err, Option, Some, None}
use Rattle.octets.specs.declared.part.Part.{Part}
use Rattle.refusal.specs.declared.Refusal.{Refusal}
use Rattle.octets.specs.Choice.{both}
use Rattle.object.specs.declared.family.Family.TheVariants.{Misauth}
use Rattle.object.specs.Walk.{Item}
use Rattle.position.specs.declared.Position.{Position}
use Rattle.position.specs.Position.{position_of, position_bytes, in_range}
use Rattle.message.specs.Reading.{length_of, vetted, by_vetted}
use Rattle.octets.specs.Part.{bytes_at}
use Rattle.message.specs.Field.{object_in, part_of, value_in, part_in, optional_in, number_in}
use Rattle.message.specs.Writing.{Object, object, number_object, optional_object, repeats, perhaps, encoded, message_of, is_list, is_name, is_below}
use Rattle.misauth.specs.declared.request.AccessRequest.{AccessRequest}
use Rattle.misauth.specs.declared.request.AccessRequestFields.{AccessRequestFields}
use Rattle.misauth.specs.Run.{is_run, run_values, count_in, repeats_in}

-- the paper: request 1, 200, 201, 202, 205, 204
abbrev pub access_request_types : List ℕ
access_request_types = 1 ∷ 200 ∷ 201 ∷ 202 ∷ 205 ∷ 204 ∷ []

-- object 206 may be missing: the part of the message that its list is
abbrev pub groups_field_of : Option Item → Option Part
groups_field_of None = None
groups_field_of (Some i) = Some (part_of (Some i))

-- the object 206 that counts (document 003, 4.11)
unfoldable pub groups_in : ℕ → List ℕ → Option Part
groups_in end m = groups_field_of (object_in Misauth 206 end m)

-- the fields, byte strings as parts of the message; of 33 and 95 how many there are. 205 is one 16-bit number (DECISIONS, 4)
unfoldable pub access_request_at : ℕ → List ℕ → AccessRequest
access_request_at end m =
    record {
      identifier = slice_index m 1;
      account = part_in Misauth 1 end m;
      authentication = part_in Misauth 200 end m;
      check = part_in Misauth 201 end m;
      seed = part_in Misauth 202 end m;
      security = number_in Misauth 205 2 end m;
      position = position_of (value_in Misauth 204 end m);
      router = optional_in Misauth 4 end m;
      proxies = count_in 33 end m;
      sixes = count_in 95 end m;
      groups = groups_in end m;
    }

-- the fields, or 1 to 6
unfoldable pub read_access_request : List ℕ → Result AccessRequest Refusal
read_access_request m = by_vetted (vetted Misauth 1 access_request_types m) Err λ end. Ok (access_request_at end m)

-- the fields as values
pub record AccessRequestValues : Type 0 where
  pub identifier : ℕ
  pub account : List ℕ
  pub authentication : List ℕ
  pub check : List ℕ
  pub seed : List ℕ
  pub security : ℕ
  pub position : Position
  pub router : Option ℕ
  pub proxies : List (List ℕ)
  pub sixes : List (List ℕ)
  pub groups : Option (List ℕ)

-- the bytes of the list, where there is one
abbrev pub groups_told : List ℕ → Option Part → Option (List ℕ)
groups_told m None = None
groups_told m (Some p) = Some (bytes_at m p)

-- the values: the bytes of a reader's parts of the message m
abbrev pub access_request_from : List ℕ → AccessRequest → AccessRequestValues
access_request_from m r =
    record {
      identifier = r.identifier;
      account = bytes_at m r.account;
      authentication = bytes_at m r.authentication;
      check = bytes_at m r.check;
      seed = bytes_at m r.seed;
      security = r.security;
      position = r.position;
      router = r.router;
      proxies = repeats_in 33 (length_of m) m;
      sixes = repeats_in 95 (length_of m) m;
      groups = groups_told m r.groups;
    }

-- what a reader's answer says of the message m: its number, or these values
unfoldable pub access_request_told : List ℕ → Result AccessRequest Refusal → Result AccessRequestValues Refusal
access_request_told m (Err why) = Err why
access_request_told m (Ok r) = Ok (access_request_from m r)

-- object 206, where there is one
abbrev pub groups_object : Option (List ℕ) → List Object
groups_object v = repeats 206 (perhaps v)

-- mandatory objects in the paper's order, then the optional ones by rising type, repeats in the order given
unfoldable pub access_request_bytes : AccessRequestValues → List ℕ
access_request_bytes v =
    message_of Misauth 1 v.identifier
    (encoded
    (object 1 v.account ∷ object 200 v.authentication ∷ object 201 v.check ∷ object 202 v.seed ∷ number_object 205 2 v.security
    ∷ object 204 (position_bytes v.position)
    ∷ (optional_object 4 4 v.router ++ (repeats 33 v.proxies ++ (repeats 95 v.sixes ++ groups_object v.groups)))))

-- a list of whole groups that fits an object
abbrev pub groups_in_range : Option (List ℕ) → Bool
groups_in_range None = true
groups_in_range (Some v) = is_list 4 v

-- refusal 18 where this fails (DECISIONS, 19); the whole may not pass 4,096 bytes either
unfoldable pub access_request_in_range : AccessRequestValues → Bool
access_request_in_range v =
    both (is_name v.account) (both (in_range v.position) (both (is_below v.router (2 ^ 32)) (groups_in_range v.groups)))

-- repeats are handed to a writer as runs of whole objects (DECISIONS, 25); 18 where they are none
unfoldable pub runs_in_range : List ℕ → List ℕ → Bool
runs_in_range proxies sixes = both (is_run 33 proxies) (is_run 95 sixes)

-- groups that are handed over with a flag, which says whether there are any
abbrev pub groups_given : Bool → List ℕ → Option (List ℕ)
groups_given true v = Some v
groups_given false v = None

-- a writer's arguments as the fields of the message
unfoldable pub access_request_given : AccessRequestFields → List ℕ → List ℕ → List ℕ → Option (List ℕ) → AccessRequestValues
access_request_given fields account proxies sixes groups =
    record {
      identifier = fields.identifier;
      account = account;
      authentication = fields.authentication;
      check = fields.check;
      seed = fields.seed;
      security = fields.security;
      position = fields.position;
      router = fields.router;
      proxies = run_values proxies;
      sixes = run_values sixes;
      groups = groups;
    }

-- 18 stands against none of them
unfoldable pub given_in_range : AccessRequestFields → List ℕ → List ℕ → List ℕ → Option (List ℕ) → Bool
given_in_range fields account proxies sixes groups =
    both (access_request_in_range (access_request_given fields account proxies sixes groups)) (runs_in_range proxies sixes)
