-- MISP messages with their check value (the paper, 'Check value and key'; 'Every message a step writes .. holds the mandatory objects only, with S 0'), and the
-- answer to one that arrives under a session key.
use Rattle.std.specs.Prelude.{ℕ, Bool, false, List, take, replicate, Result, Err, ⊤, None}
use Rattle.refusal.specs.Step.{done}
use Rattle.refusal.specs.declared.Refusal.{Refusal}
use Rattle.octets.specs.Choice.{pick, flip}
use Rattle.octets.specs.Numbers.{bytes_of}
use Rattle.refusal.specs.declared.Refusal.TheVariants.{OtherKey, NotExpected, WrongCheck}
use Rattle.object.specs.declared.family.Family.TheVariants.{Misp}
use Rattle.message.specs.Reading.{length_of}
use Rattle.message.specs.Field.{part_in}
use Rattle.misp.specs.Request.{RequestValues, request_values, request_bytes}
use Rattle.misp.specs.Success.{SuccessValues, success_values, success_bytes}
use Rattle.misp.specs.Terminating.{TerminatingValues, terminating_values, terminating_bytes}
use Rattle.icv.specs.Icv.{authentication_of, check_value}

-- the authentication data of a message: of its Length bytes, with the value of the object 5 that counts zero (DECISIONS, 21)
unfoldable pub authentication_data : List ℕ → List ℕ → List ℕ → List ℕ
authentication_data sender receiver m = authentication_of (part_in Misp 5 (length_of m) m).at sender receiver (take (length_of m) m)

-- the check value that a message should hold
unfoldable pub check_for : List ℕ → List ℕ → List ℕ → List ℕ → List ℕ
check_for key sender receiver m = check_value key (authentication_data sender receiver m)

-- the answer to a message under a session key, once it is read, by its S, whether it is expected, and whether its check value is right: 8, then 21, then 17
-- (the paper, the order 'Node and terminating'; DECISIONS, 35 and 67)
abbrev pub under_key : Bool → Bool → Bool → Result ⊤ Refusal
under_key s expected right = pick s (Err OtherKey) (pick (flip expected) (Err NotExpected) (pick right done (Err WrongCheck)))

-- 'with the check value's bytes zero'
abbrev pub no_check : List ℕ
no_check = replicate 16 0

-- a message with its check value in it, where `make` gives the message for each check value
unfoldable pub with_check : List ℕ → List ℕ → List ℕ → (List ℕ → List ℕ) → List ℕ
with_check key sender receiver make = make (check_for key sender receiver (make no_check))

-- the fields of a node's request, with the check value that is given: one type, one network number (DECISIONS, 32)
abbrev pub request_by : ℕ → ℕ → List ℕ → List ℕ → ℕ → List ℕ → RequestValues
request_by stamp kind account seed network check = request_values false stamp (bytes_of 2 kind) check account seed (bytes_of 2 network) None

-- a node's request with its check value: 'the key is the password in a request'
unfoldable pub request_of : List ℕ → List ℕ → List ℕ → ℕ → ℕ → List ℕ → List ℕ → ℕ → List ℕ
request_of password sender receiver stamp kind account seed network =
    with_check password sender receiver (λ check. request_bytes (request_by stamp kind account seed network check))

-- the fields of a router's success, with the check value that is given: the lifetime as it is, our network number (DECISIONS, 32)
abbrev pub success_by : ℕ → ℕ → ℕ → List ℕ → SuccessValues
success_by stamp lifetime network check = success_values false stamp lifetime check (bytes_of 2 network) None None

-- a success with its check value: 'the session key in success and terminating'
unfoldable pub success_of : List ℕ → List ℕ → List ℕ → ℕ → ℕ → ℕ → List ℕ
success_of key sender receiver stamp lifetime network =
    with_check key sender receiver (λ check. success_bytes (success_by stamp lifetime network check))

-- the fields of a terminating message, with the check value that is given: 'Terminating messages carry the session's stamp'
abbrev pub terminating_by : ℕ → List ℕ → TerminatingValues
terminating_by stamp check = terminating_values false stamp check None

-- a terminating message with its check value, under the session key
unfoldable pub terminating_of : List ℕ → List ℕ → List ℕ → ℕ → List ℕ
terminating_of key sender receiver stamp =
    with_check key sender receiver (λ check. terminating_bytes (terminating_by stamp check))
