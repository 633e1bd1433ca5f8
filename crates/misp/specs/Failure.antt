-- The failure message (document 000, 4.5.5; the paper: failure 8; mandatory 2, 13).
use Rattle.std.specs.Prelude.{ℕ, List, [], ◌∷◌, Result, Ok, Err}
use Rattle.refusal.specs.declared.Refusal.{Refusal}
use Rattle.object.specs.declared.family.Family.TheVariants.{Misp}
use Rattle.message.specs.Reading.{vetted, by_vetted}
use Rattle.message.specs.Field.{number_in}
use Rattle.message.specs.Writing.{number_object, encoded, message_of}
use Rattle.misp.specs.declared.failure.Failure.{Failure}

-- the paper: failure 2, 13
abbrev pub failure_types : List ℕ
failure_types = 2 ∷ 13 ∷ []

-- the beacon stamp and the error reason
unfoldable pub failure_at : ℕ → List ℕ → Failure
failure_at end m = record { stamp = number_in Misp 2 8 end m; reason = number_in Misp 13 2 end m }

-- the fields, or 1 to 5: no mandatory object has a size that 6 asks for
unfoldable pub read_failure : List ℕ → Result Failure Refusal
read_failure m = by_vetted (vetted Misp 8 failure_types m) Err λ end. Ok (failure_at end m)

-- mandatory objects in the paper's order; S is reserved and 0
unfoldable pub failure_bytes : ℕ → ℕ → List ℕ
failure_bytes stamp reason = message_of Misp 8 0 (encoded (number_object 2 8 stamp ∷ number_object 13 2 reason ∷ []))
