-- The access reject (document 003, 5.3; the paper: reject 3; none mandatory; document 003: optional 33).
use Rattle.std.specs.Prelude.{ℕ, List, [], slice_index, Result, Ok, Err}
use Rattle.refusal.specs.declared.Refusal.{Refusal}
use Rattle.object.specs.declared.family.Family.TheVariants.{Misauth}
use Rattle.message.specs.Reading.{length_of, vetted, by_vetted}
use Rattle.message.specs.Writing.{encoded, message_of, repeats}
use Rattle.misauth.specs.declared.reject.Reject.{Reject}
use Rattle.misauth.specs.Run.{count_in, repeats_in}

-- the Identifier, and how many objects 33 there are
unfoldable pub reject_at : ℕ → List ℕ → Reject
reject_at end m = record { identifier = slice_index m 1; proxies = count_in 33 end m }

-- the fields, or 1 to 4: no object is mandatory
unfoldable pub read_reject : List ℕ → Result Reject Refusal
read_reject m = by_vetted (vetted Misauth 3 [] m) Err λ end. Ok (reject_at end m)

-- the fields as values
pub record RejectValues : Type 0 where
  pub identifier : ℕ
  pub proxies : List (List ℕ)

-- the same, field by field
abbrev pub reject_values : ℕ → List (List ℕ) → RejectValues
reject_values identifier proxies = record { identifier = identifier; proxies = proxies }

-- the values: the bytes of a reader's parts of the message m
abbrev pub reject_from : List ℕ → Reject → RejectValues
reject_from m r = reject_values r.identifier (repeats_in 33 (length_of m) m)

-- what a reader's answer says of the message m: its number, or these values
unfoldable pub reject_told : List ℕ → Result Reject Refusal → Result RejectValues Refusal
reject_told m (Err why) = Err why
reject_told m (Ok r) = Ok (reject_from m r)

-- the proxy objects in the order given
unfoldable pub reject_bytes : RejectValues → List ℕ
reject_bytes v = message_of Misauth 3 v.identifier (encoded (repeats 33 v.proxies))
