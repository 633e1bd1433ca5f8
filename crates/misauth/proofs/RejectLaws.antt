-- The access reject: its objects as runs, and its fields as the values of objects.
use Prim.Native.Nat.{ℕ, ◌+◌, ◌≤◌}
use mathlib.Core.Path.{◌≡◌, refl, ◌∙◌}
use mathlib.Core.Bool.{true}
use mathlib.Core.List.{List, [], ◌∷◌, append-nil, ◌++◌}
use native.Mathlib.Omega.{arith}
use lib.ListN.{length, get_or}
use Rattle.std.specs.Prelude.{Ok, Err}
use Rattle.octets.specs.Numbers.{Bytes}
use Rattle.object.specs.declared.family.Family.TheVariants.{Misauth}
use Rattle.object.specs.Family.{limit_of}
use Rattle.object.specs.Rule.{rule_of, rule_of_misauth}
use Rattle.message.specs.Reading.{length_of, vetted, by_vetted}
use Rattle.message.specs.Writing.{encoded, repeats, message_of}
use Rattle.message.proofs.RunLaws.{Run, run, RunsProper}
use Rattle.message.proofs.CarriedLaws.{Form, form_of}
use Rattle.message.proofs.ToldLaws.{told_vetted}
use Rattle.message.proofs.ValueLaws.{EachFits, each_any}
use Rattle.message.proofs.WritingLaws.{message_length}
use Rattle.misauth.specs.Run.{is_run, run_values, repeats_in}
use Rattle.misauth.specs.Reject.{reject_at, read_reject, RejectValues, reject_values, reject_told, reject_bytes}
use Rattle.misauth.proofs.GivenRunLaws.{run_bytes}

-- all objects in the writer's order
abbrev pub reject_runs : RejectValues → List Run
reject_runs v = run 33 v.proxies ∷ []

-- its bytes are the message of these
pub reject_form : (v : RejectValues) → length (reject_bytes v) ≤ limit_of Misauth → Form Misauth 3 v.identifier (reject_runs v) (reject_bytes v)
unfolding reject_bytes
reject_form v = form_of (rw (append-nil (repeats 33 v.proxies)))

-- where each proxy value fits an object
pub reject_proper : (v : RejectValues) → EachFits v.proxies → RunsProper Misauth (reject_runs v)
unfolding rule_of rule_of_misauth
reject_proper v proxies = (each_any Misauth 33 v.proxies refl proxies, tt)

-- a run of proxy objects that is written is that of its values
pub reject_run : (identifier : ℕ) (run : List ℕ) → Bytes run → is_run 33 run ≡ true
    → message_of Misauth 3 identifier (run ++ []) ≡ reject_bytes (reject_values identifier (run_values run))
unfolding reject_bytes
reject_run identifier run b tested = rw (append-nil, run_bytes 33 run tested b)

-- how long it is with a run of proxy objects
pub reject_length : (identifier : ℕ) (run : List ℕ) → is_run 33 run ≡ true → Bytes run
    → length (reject_bytes (reject_values identifier (run_values run))) ≡ 20 + length run
unfolding reject_bytes
reject_length identifier run tested b =
    message_length Misauth 3 identifier (encoded (repeats 33 (run_values run))) ∙ rw (run_bytes 33 run tested b)

-- without one it is not too long
pub reject_fits : (identifier : ℕ) → length (reject_bytes (reject_values identifier [])) ≤ limit_of Misauth
unfolding reject_bytes encoded
reject_fits identifier = omega (arith, message_length Misauth 3 identifier [])

-- the fields as the values of the objects
unfoldable pub reject_in : ℕ → List ℕ → RejectValues
reject_in end m = reject_values (get_or m 1 0) (repeats_in 33 (length_of m) m)

-- what the reader's answer says is these fields, or its refusal
pub reject_told_law : (m : List ℕ) → reject_told m (read_reject m) ≡ by_vetted (vetted Misauth 3 [] m) Err λ end. Ok (reject_in end m)
unfolding reject_told read_reject reject_at reject_in
reject_told_law m = told_vetted (reject_told m) (vetted Misauth 3 [] m) Err (λ end. Ok (reject_at end m))
