-- The access accept (document 003, 5.2; the paper: accept 2; mandatory 203, 201; document 003: optional 33).
use Rattle.std.specs.Prelude.{ℕ, List, [], ◌∷◌, slice_index, Result, Ok, Err}
use Rattle.refusal.specs.declared.Refusal.{Refusal}
use Rattle.object.specs.declared.family.Family.TheVariants.{Misauth}
use Rattle.message.specs.Reading.{length_of, vetted, by_vetted}
use Rattle.octets.specs.Part.{bytes_at}
use Rattle.message.specs.Field.{part_in}
use Rattle.message.specs.Writing.{object, encoded, message_of, repeats}
use Rattle.misauth.specs.declared.accept.Accept.{Accept}
use Rattle.misauth.specs.Run.{count_in, repeats_in}

-- the paper: accept 203, 201
abbrev pub accept_types : List ℕ
accept_types = 203 ∷ 201 ∷ []

-- the fields, byte strings as parts of the message; of 33 how many there are
unfoldable pub accept_at : ℕ → List ℕ → Accept
accept_at end m = record { identifier = slice_index m 1; key = part_in Misauth 203 end m; check = part_in Misauth 201 end m; proxies = count_in 33 end m }

-- the fields, or 1 to 6
unfoldable pub read_accept : List ℕ → Result Accept Refusal
read_accept m = by_vetted (vetted Misauth 2 accept_types m) Err λ end. Ok (accept_at end m)

-- the fields as values
pub record AcceptValues : Type 0 where
  pub identifier : ℕ
  pub key : List ℕ
  pub check : List ℕ
  pub proxies : List (List ℕ)

-- the same, field by field
abbrev pub accept_values : ℕ → List ℕ → List ℕ → List (List ℕ) → AcceptValues
accept_values identifier key check proxies = record { identifier = identifier; key = key; check = check; proxies = proxies }

-- the values: the bytes of a reader's parts of the message m
abbrev pub accept_from : List ℕ → Accept → AcceptValues
accept_from m r = accept_values r.identifier (bytes_at m r.key) (bytes_at m r.check) (repeats_in 33 (length_of m) m)

-- what a reader's answer says of the message m: its number, or these values
unfoldable pub accept_told : List ℕ → Result Accept Refusal → Result AcceptValues Refusal
accept_told m (Err why) = Err why
accept_told m (Ok r) = Ok (accept_from m r)

-- mandatory objects in the paper's order, then the proxy objects in the order given
unfoldable pub accept_bytes : AcceptValues → List ℕ
accept_bytes v = message_of Misauth 2 v.identifier (encoded (object 203 v.key ∷ object 201 v.check ∷ repeats 33 v.proxies))
