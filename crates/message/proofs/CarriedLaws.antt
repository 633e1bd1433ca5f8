-- What every reader makes of a message that was written: it ends where its Length says, it passes the tests, and each type has its values.
use Rattle.std.specs.Prelude.{Option, Ok}
use Prim.Native.Nat.{ℕ, ◌+◌, ◌-◌, ◌^◌, ◌≤◌}
use mathlib.Core.Path.{◌≡◌, refl, sym, ap, ap₂, ◌∙◌}
use mathlib.Core.Bool.{Bool, true}
use mathlib.Core.List.{List, [], ◌∷◌, ◌++◌, append_assoc}
use native.Mathlib.Omega.{arith}
use lib.ListN.{length, get_or, take, length-append}
use lib.Seq.{take_at}
use Rattle.octets.specs.Choice.{both, every}
use Rattle.object.specs.declared.family.Family.{Family}
use Rattle.object.specs.Family.{header_of, limit_of, last_in}
use Rattle.object.specs.Walk.{walk_of, one_of}
use Rattle.message.specs.Reading.{length_of, body_of, value_of, is_there, has_one, has_all, fits_value, fits_one, all_fit, vetted_body, vetted, sound}
use Rattle.message.specs.Field.{object_in, bytes_from, value_in, optional_of, optional_in}
use Rattle.message.specs.Writing.{head_bytes, perhaps, optional_value, encoded, message_of, is_below}
use Rattle.message.proofs.WritingLaws.{limit_most, message_length}
use Rattle.message.proofs.EncodedLaws.{items_from, walk_encoded, chosen, one_given}
use Rattle.message.proofs.RunLaws.{Run, in_runs, values_in, given_runs, RunsProper, runs_proper}
use Rattle.message.proofs.ValueLaws.{perhaps_back, optional_back}
use Rattle.message.proofs.HeaderLaws.{header_second, header_says, header_body, header_vetted}

-- these bytes are the message of these runs, and not too many for the family
pub record Form (f : Family) (code second : ℕ) (rs : List Run) (bytes : List ℕ) : Type 0 where
  pub is : bytes ≡ message_of f code second (encoded (in_runs rs))
  pub room : header_of f + length (encoded (in_runs rs)) ≤ limit_of f

-- where a writer does not refuse it as too long
pub form_of : {f : Family} {code second : ℕ} {rs : List Run} {bytes : List ℕ} → bytes ≡ message_of f code second (encoded (in_runs rs))
    → length bytes ≤ limit_of f → Form f code second rs bytes
form_of {f} {code} {second} {rs} {bytes} e h =
    record { is = e; room = rw (e, message_length f code second (encoded (in_runs rs))) at h }

-- such a message
module _ {f : Family} {code second : ℕ} {rs : List Run} {bytes : List ℕ} (form : Form f code second rs bytes) where
  -- how long it is
  pub form_long : length bytes ≡ header_of f + length (encoded (in_runs rs))
  form_long = ap length form.is ∙ message_length f code second (encoded (in_runs rs))

  -- not too long for the family
  pub form_short : length bytes ≤ limit_of f
  form_short = rw form_long form.room

  -- it ends where its Length says
  pub form_ends : length_of bytes ≡ length bytes
  unfolding message_of
  form_ends =
      let objects : List ℕ = encoded (in_runs rs) in
      ap length_of form.is
      ∙ header_says f code second (header_of f + length objects) objects (omega (arith, limit_most f, form.room))
      ∙ sym form_long

-- m starts with the message of these runs, which the family can hold and which is not too long
pub record Carries (f : Family) (code second : ℕ) (rs : List Run) (m : List ℕ) : Type 0 where
  pub more : List ℕ
  pub is : m ≡ message_of f code second (encoded (in_runs rs)) ++ more
  pub proper : RunsProper f rs
  pub room : header_of f + length (encoded (in_runs rs)) ≤ limit_of f

-- a written message with any bytes after it
pub carries : {f : Family} {code second : ℕ} {rs : List Run} {bytes : List ℕ} → Form f code second rs bytes → RunsProper f rs
    → (more : List ℕ) → Carries f code second rs (bytes ++ more)
carries form proper more = record {
  more = more;
  is = ap (λ (l : List ℕ). l ++ more) form.is;
  proper = proper;
  room = form.room;
}

-- the test 5 on the runs
abbrev pub all_given : Family → List ℕ → List Run → Bool
all_given f types rs = every (λ t. is_there (chosen (last_in f) (values_in t rs))) types

-- and the test 6
abbrev pub all_fitting : Family → List ℕ → List Run → Bool
all_fitting f types rs = every (λ t. fits_value f t (chosen (last_in f) (values_in t rs))) types

-- tests that agree on each type agree on a list
every_same : {test test' : ℕ → Bool} → ((t : ℕ) → test t ≡ test' t) → (types : List ℕ) → every test types ≡ every test' types
unfolding every
every_same e [] = refl
every_same e (t ∷ ts) = ap₂ both (e t) (every_same e ts)

-- the walk over these objects, and the tests 5 and 6 of them
module _ (f : Family) (rs : List Run) (proper : RunsProper f rs) where
  pub walk_carried : walk_of f (encoded (in_runs rs)) ≡ record { items = items_from (header_of f) (in_runs rs); ends = Ok tt }
  unfolding walk_of
  walk_carried = walk_encoded f (header_of f) (in_runs rs) (runs_proper f rs proper)

  one_carried : (t : ℕ) → value_of (one_of f t (walk_of f (encoded (in_runs rs))).items) ≡ chosen (last_in f) (values_in t rs)
  one_carried t =
      rw walk_carried
      (one_given f t (header_of f) (in_runs rs) (runs_proper f rs proper) ∙ ap (chosen (last_in f)) (given_runs t rs))

  all_there : (types : List ℕ) → has_all f types (encoded (in_runs rs)) ≡ all_given f types rs
  unfolding has_all has_one
  all_there types = every_same (λ t. ap is_there (one_carried t)) types

  all_fit_law : (types : List ℕ) → all_fit f types (encoded (in_runs rs)) ≡ all_fitting f types rs
  unfolding all_fit fits_one
  all_fit_law types = every_same (λ t. ap (fits_value f t) (one_carried t)) types

  body_sound : (mandatory : List ℕ) (end : ℕ) → all_given f mandatory rs ≡ true → all_fitting f mandatory rs ≡ true
      → vetted_body f mandatory end (encoded (in_runs rs)) ≡ sound end
  unfolding vetted_body
  body_sound mandatory end given fit = rw (walk_carried, all_there mandatory, given, all_fit_law mandatory, fit)

-- what the header and the tests say of such a message
module _ {f : Family} {code second : ℕ} {rs : List Run} {m : List ℕ} (c : Carries f code second rs m) where
  -- the bytes after the header
  after : List ℕ
  after = encoded (in_runs rs) ++ c.more

  end : ℕ
  end = header_of f + length (encoded (in_runs rs))

  starts : m ≡ head_bytes f code second end ++ after
  unfolding message_of after end
  starts = c.is ∙ append_assoc (head_bytes f code second end) (encoded (in_runs rs)) c.more

  pub carried_length : length_of m ≡ header_of f + length (encoded (in_runs rs))
  unfolding end
  carried_length = ap length_of starts ∙ header_says f code second end after (omega (arith, limit_most f, c.room))

  pub carried_second : get_or m 1 0 ≡ second
  carried_second = ap (λ (l : List ℕ). get_or l 1 0) starts ∙ header_second f code second end after

  objects_first : take (end - header_of f) after ≡ encoded (in_runs rs)
  unfolding after end
  objects_first = take_at (encoded (in_runs rs)) c.more (end - header_of f) (omega arith)

  pub carried_body : body_of f (length_of m) m ≡ encoded (in_runs rs)
  unfolding end
  carried_body =
      ap₂ (body_of f) carried_length starts ∙ header_body f code second end after ∙ objects_first

  pub carried_vetted : (mandatory : List ℕ) → all_given f mandatory rs ≡ true → all_fitting f mandatory rs ≡ true
      → vetted f code mandatory m ≡ sound (length_of m)
  unfolding after end
  carried_vetted mandatory given fit =
      ap (vetted f code mandatory) starts
      ∙ header_vetted f code second end after (omega arith) c.room (simp length-append (omega arith)) mandatory
      ∙ ap (vetted_body f mandatory end) objects_first
      ∙ body_sound f rs c.proper mandatory end given fit
      ∙ ap sound (sym carried_length)

  -- each type has the value that counts of its runs
  carried_chosen : (t : ℕ) → value_of (object_in f t (length_of m) m) ≡ chosen (last_in f) (values_in t rs)
  unfolding object_in
  carried_chosen t = rw carried_body (one_carried f rs c.proper t)

  -- the bytes of it
  pub carried_value : (t : ℕ) → value_in f t (length_of m) m ≡ bytes_from (chosen (last_in f) (values_in t rs))
  unfolding value_in
  carried_value t = ap bytes_from (carried_chosen t)

  -- a value that may be missing, where its run is all that there is of its type, is read back
  pub carried_perhaps : (t : ℕ) (o : Option (List ℕ)) → values_in t rs ≡ perhaps o ++ [] → value_of (object_in f t (length_of m) m) ≡ o
  carried_perhaps t o e = carried_chosen t ∙ ap (chosen (last_in f)) e ∙ perhaps_back (last_in f) o

  -- so is a number that may be missing
  pub carried_optional : (t size : ℕ) (o : Option ℕ) → values_in t rs ≡ perhaps (optional_value size o) ++ [] → is_below o (256 ^ size) ≡ true
      → size ≤ 8 → optional_in f t (length_of m) m ≡ o
  unfolding optional_in
  carried_optional t size o e below few = ap optional_of (carried_perhaps t (optional_value size o) e) ∙ optional_back size o below few
