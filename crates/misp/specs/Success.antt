-- The success message (document 000, 4.5.4; the paper: success 4; mandatory 2, 15, 5, 21; document 000: optional 3, 4).
use Rattle.std.specs.Prelude.{ℕ, ◌^◌, Bool, List, [], ◌∷◌, ◌++◌, Result, Ok, Err, Option}
use Rattle.refusal.specs.declared.Refusal.{Refusal}
use Rattle.octets.specs.Choice.{both}
use Rattle.object.specs.declared.family.Family.TheVariants.{Misp}
use Rattle.message.specs.Reading.{vetted, by_vetted}
use Rattle.octets.specs.Part.{bytes_at}
use Rattle.message.specs.Field.{number_in, flag_in, part_in, optional_in}
use Rattle.message.specs.Writing.{object, number_object, optional_object, encoded, message_of, flag_byte, is_list, is_below}
use Rattle.misp.specs.declared.success.Success.{Success}

-- the paper: success 2, 15, 5, 21
abbrev pub success_types : List ℕ
success_types = 2 ∷ 15 ∷ 5 ∷ 21 ∷ []

-- the fields, byte strings as parts of the message
unfoldable pub success_at : ℕ → List ℕ → Success
success_at end m =
    record {
      s = flag_in m;
      stamp = number_in Misp 2 8 end m;
      lifetime = number_in Misp 15 2 end m;
      check = part_in Misp 5 end m;
      layers = part_in Misp 21 end m;
      local = optional_in Misp 3 end m;
      remote = optional_in Misp 4 end m;
    }

-- the fields, or 1 to 6
unfoldable pub read_success : List ℕ → Result Success Refusal
read_success m = by_vetted (vetted Misp 4 success_types m) Err λ end. Ok (success_at end m)

-- the fields as values
pub record SuccessValues : Type 0 where
  pub s : Bool
  pub stamp : ℕ
  pub lifetime : ℕ
  pub check : List ℕ
  pub layers : List ℕ
  pub local : Option ℕ
  pub remote : Option ℕ

-- the same, field by field
abbrev pub success_values : Bool → ℕ → ℕ → List ℕ → List ℕ → Option ℕ → Option ℕ → SuccessValues
success_values s stamp lifetime check layers local remote =
    record { s = s; stamp = stamp; lifetime = lifetime; check = check; layers = layers; local = local; remote = remote }

-- the values: the bytes of a reader's parts of the message m
abbrev pub success_from : List ℕ → Success → SuccessValues
success_from m r = success_values r.s r.stamp r.lifetime (bytes_at m r.check) (bytes_at m r.layers) r.local r.remote

-- what a reader's answer says of the message m: its number, or these values
unfoldable pub success_told : List ℕ → Result Success Refusal → Result SuccessValues Refusal
success_told m (Err why) = Err why
success_told m (Ok r) = Ok (success_from m r)

-- mandatory objects in the paper's order, then the optional ones by rising type
unfoldable pub success_bytes : SuccessValues → List ℕ
success_bytes v =
    message_of Misp 4 (flag_byte v.s)
    (encoded
    (number_object 2 8 v.stamp ∷ number_object 15 2 v.lifetime ∷ object 5 v.check ∷ object 21 v.layers
    ∷ (optional_object 3 4 v.local ++ optional_object 4 4 v.remote)))

-- refusal 18 where this fails (DECISIONS, 19)
unfoldable pub success_in_range : SuccessValues → Bool
success_in_range v = both (is_list 2 v.layers) (both (is_below v.local (2 ^ 32)) (is_below v.remote (2 ^ 32)))
