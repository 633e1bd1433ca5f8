-- The access accept: its objects as runs, and its fields as the values of objects.
use Prim.Native.Nat.{ℕ, ◌+◌, ◌≤◌}
use mathlib.Core.Path.{◌≡◌, refl, ◌∙◌}
use mathlib.Core.Bool.{true}
use mathlib.Core.List.{List, [], ◌∷◌, append-nil, ◌++◌}
use native.Mathlib.Omega.{arith}
use lib.ListN.{length, get_or, length-append}
use Rattle.std.specs.Prelude.{Ok, Err}
use Rattle.octets.specs.Numbers.{Bytes}
use Rattle.object.specs.declared.family.Family.TheVariants.{Misauth}
use Rattle.object.specs.Family.{limit_of}
use Rattle.object.specs.Rule.{rule_of, rule_of_misauth}
use Rattle.message.specs.Reading.{length_of, vetted, by_vetted}
use Rattle.message.specs.Field.{value_in}
use Rattle.message.specs.Writing.{object, encoded, repeats, message_of, object_bytes}
use Rattle.message.proofs.ObjectLaws.{object_size}
use Rattle.message.proofs.RunLaws.{Run, run, one, RunsProper}
use Rattle.message.proofs.CarriedLaws.{Form, form_of}
use Rattle.message.proofs.PartLaws.{at_part}
use Rattle.message.proofs.ToldLaws.{told_vetted}
use Rattle.message.proofs.ValueLaws.{proper_any, EachFits, each_any}
use Rattle.message.proofs.WritingLaws.{message_length, message_most}
use Rattle.misauth.specs.Run.{is_run, run_values, repeats_in}
use Rattle.misauth.specs.Accept.{accept_types, accept_at, read_accept, AcceptValues, accept_values, accept_told, accept_bytes}
use Rattle.misauth.proofs.GivenRunLaws.{run_bytes}

-- all objects in the writer's order
abbrev pub accept_runs : AcceptValues → List Run
accept_runs v = one 203 v.key ∷ one 201 v.check ∷ run 33 v.proxies ∷ []

-- its bytes are the message of these
pub accept_form : (v : AcceptValues) → length (accept_bytes v) ≤ limit_of Misauth → Form Misauth 2 v.identifier (accept_runs v) (accept_bytes v)
unfolding accept_bytes
accept_form v = form_of (rw (append-nil (repeats 33 v.proxies)))

-- with a masked key and a check value of 16 bytes
pub accept_proper : (v : AcceptValues) → length v.key ≡ 16 → length v.check ≡ 16 → EachFits v.proxies → RunsProper Misauth (accept_runs v)
unfolding rule_of rule_of_misauth
accept_proper v key check proxies =
    ((proper_any refl (omega arith), tt), ((proper_any refl (omega arith), tt), (each_any Misauth 33 v.proxies refl proxies, tt)))

-- a run of proxy objects that is written is that of its values
pub accept_run : (identifier : ℕ) (key check run : List ℕ) → Bytes run → is_run 33 run ≡ true
    → message_of Misauth 2 identifier (object_bytes 203 key ++ (object_bytes 201 check ++ (run ++ [])))
    ≡ accept_bytes (accept_values identifier key check (run_values run))
unfolding accept_bytes encoded
accept_run identifier key check run b tested = rw (append-nil, run_bytes 33 run tested b)

-- how long it is with a run of proxy objects
pub accept_length : (identifier : ℕ) (key check run : List ℕ) → length key ≡ 16 → length check ≡ 16 → is_run 33 run ≡ true → Bytes run
    → length (accept_bytes (accept_values identifier key check (run_values run))) ≡ 56 + length run
unfolding accept_bytes encoded
accept_length identifier key check run sixteen also tested b =
    message_length Misauth 2 identifier (encoded (object 203 key ∷ object 201 check ∷ repeats 33 (run_values run)))
    ∙ simp length-append (rw (object_size 203 key (omega arith), object_size 201 check (omega arith), run_bytes 33 run tested b) (omega arith))

-- without one it is not too long, whatever its key and check value
pub accept_fits : (identifier : ℕ) (key check : List ℕ) → length (accept_bytes (accept_values identifier key check [])) ≤ limit_of Misauth
unfolding accept_bytes
accept_fits identifier key check = omega (arith, message_most Misauth 2 identifier (object 203 key ∷ object 201 check ∷ []))

-- the fields as the values of the objects that count
unfoldable pub accept_in : ℕ → List ℕ → AcceptValues
accept_in end m = accept_values (get_or m 1 0) (value_in Misauth 203 end m) (value_in Misauth 201 end m) (repeats_in 33 (length_of m) m)

-- what the reader's answer says is these fields, or its refusal
pub accept_told_law : (m : List ℕ) → accept_told m (read_accept m) ≡ by_vetted (vetted Misauth 2 accept_types m) Err λ end. Ok (accept_in end m)
unfolding accept_told read_accept accept_at accept_in
accept_told_law m = told_vetted (accept_told m) (vetted Misauth 2 accept_types m) Err (λ end. Ok (accept_at end m)) ∙ simp at_part
