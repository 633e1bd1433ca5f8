-- The request message (document 000, 4.5.3; the paper: mandatory 2, 18, 5, 6, 8, 21; document 000: optional 3).
use Rattle.std.specs.Prelude.{ℕ, ◌^◌, Bool, List, [], ◌∷◌, Result, Ok, Err, Option}
use Rattle.refusal.specs.declared.Refusal.{Refusal}
use Rattle.octets.specs.Choice.{both}
use Rattle.object.specs.declared.family.Family.TheVariants.{Misp}
use Rattle.message.specs.Reading.{vetted, by_vetted}
use Rattle.octets.specs.Part.{bytes_at}
use Rattle.message.specs.Field.{number_in, flag_in, part_in, optional_in}
use Rattle.message.specs.Writing.{object, number_object, optional_object, encoded, message_of, flag_byte, is_list, is_name, is_below}
use Rattle.misp.specs.declared.request.Request.{Request}

-- the paper: request 2, 18, 5, 6, 8, 21
abbrev pub request_types : List ℕ
request_types = 2 ∷ 18 ∷ 5 ∷ 6 ∷ 8 ∷ 21 ∷ []

-- the fields, byte strings as parts of the message
unfoldable pub request_at : ℕ → List ℕ → Request
request_at end m =
    record {
      s = flag_in m;
      stamp = number_in Misp 2 8 end m;
      security = part_in Misp 18 end m;
      check = part_in Misp 5 end m;
      account = part_in Misp 6 end m;
      seed = part_in Misp 8 end m;
      layers = part_in Misp 21 end m;
      local = optional_in Misp 3 end m;
    }

-- the fields, or 1 to 6
unfoldable pub read_request : List ℕ → Result Request Refusal
read_request m = by_vetted (vetted Misp 3 request_types m) Err λ end. Ok (request_at end m)

-- the fields as values
pub record RequestValues : Type 0 where
  pub s : Bool
  pub stamp : ℕ
  pub security : List ℕ
  pub check : List ℕ
  pub account : List ℕ
  pub seed : List ℕ
  pub layers : List ℕ
  pub local : Option ℕ

-- the same, field by field
abbrev pub request_values : Bool → ℕ → List ℕ → List ℕ → List ℕ → List ℕ → List ℕ → Option ℕ → RequestValues
request_values s stamp security check account seed layers local =
    record { s = s; stamp = stamp; security = security; check = check; account = account; seed = seed; layers = layers; local = local }

-- the values: the bytes of a reader's parts of the message m
abbrev pub request_from : List ℕ → Request → RequestValues
request_from m r =
    request_values r.s r.stamp (bytes_at m r.security) (bytes_at m r.check) (bytes_at m r.account) (bytes_at m r.seed)
    (bytes_at m r.layers) r.local

-- what a reader's answer says of the message m: its number, or these values
unfoldable pub request_told : List ℕ → Result Request Refusal → Result RequestValues Refusal
request_told m (Err why) = Err why
request_told m (Ok r) = Ok (request_from m r)

-- mandatory objects in the paper's order, then the optional one
unfoldable pub request_bytes : RequestValues → List ℕ
request_bytes v =
    message_of Misp 3 (flag_byte v.s)
    (encoded
    (number_object 2 8 v.stamp ∷ object 18 v.security ∷ object 5 v.check ∷ object 6 v.account ∷ object 8 v.seed
    ∷ object 21 v.layers ∷ optional_object 3 4 v.local))

-- refusal 18 where this fails (DECISIONS, 19)
unfoldable pub request_in_range : RequestValues → Bool
request_in_range v = both (is_list 2 v.security) (both (is_list 2 v.layers) (both (is_name v.account) (is_below v.local (2 ^ 32))))
