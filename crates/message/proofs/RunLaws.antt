-- The objects of a written message, as runs of one type each: a kind's types are numbers written out, so what it holds of a type computes.
use Prim.Native.Nat.{ℕ, ◌+◌, ◌≤◌, min}
use mathlib.Core.Path.{◌≡◌, refl, sym, ap, ◌∙◌}
use mathlib.Core.Bool.{Bool, true, false}
use mathlib.Core.List.{List, [], ◌∷◌, ◌++◌, append-nil}
use native.Mathlib.Omega.{arith}
use lib.ListN.{length, length-append}
use lib.Dec.{eqb}
use Rattle.octets.specs.Choice.{pick}
use Rattle.octets.proofs.ChoiceLaws.{pick_same}
use Rattle.object.specs.declared.family.Family.{Family}
use Rattle.message.specs.Writing.{Object, object, encoded, repeats}
use Rattle.message.proofs.ObjectLaws.{object_length, object_most}
use Rattle.message.proofs.EncodedLaws.{Proper, AllProper, given}

-- objects of one type, one after the other: none, one or several
pub record Run : Type 0 where
  pub kind : ℕ
  pub values : List (List ℕ)

-- a run of a type with these values; with one value; the objects of runs, one run after the other
abbrev pub run : ℕ → List (List ℕ) → Run
run t vs = record { kind = t; values = vs }

abbrev pub one : ℕ → List ℕ → Run
one t v = run t (v ∷ [])

abbrev pub in_runs : List Run → List Object
in_runs [] = []
in_runs (r ∷ rs) = repeats r.kind r.values ++ in_runs rs

-- the values of the type t, in their order
abbrev pub values_in : ℕ → List Run → List (List ℕ)
values_in t [] = []
values_in t (r ∷ rs) = pick (eqb r.kind t) (r.values ++ values_in t rs) (values_in t rs)

given_run : (t : ℕ) (k : ℕ) (vs : List (List ℕ)) (os : List Object)
    → given t (repeats k vs ++ os) ≡ pick (eqb k t) (vs ++ given t os) (given t os)
given_run t k [] os = sym (pick_same (eqb k t) (given t os))
given_run t k (v ∷ vs) os = go (eqb k t) (given_run t k vs os)
  where
    go : (b : Bool) {l : List (List ℕ)} → l ≡ pick b (vs ++ given t os) (given t os)
        → pick b (v ∷ l) l ≡ pick b (v ∷ (vs ++ given t os)) (given t os)
    go true e = ap (v ∷◌) e
    go false e = e

-- the values of a type are those of its runs
pub given_runs : (t : ℕ) (rs : List Run) → given t (in_runs rs) ≡ values_in t rs
given_runs t [] = refl
given_runs t (r ∷ rs) =
    given_run t r.kind r.values (in_runs rs)
    ∙ ap (λ (l : List (List ℕ)). pick (eqb r.kind t) (r.values ++ l) l) (given_runs t rs)

-- each value of a run is one that the message can hold
abbrev pub RunProper : Family → ℕ → List (List ℕ) → Type 0
RunProper f t [] = Unit
RunProper f t (v ∷ vs) = Proper f (object t v) × RunProper f t vs

abbrev pub RunsProper : Family → List Run → Type 0
RunsProper f [] = Unit
RunsProper f (r ∷ rs) = RunProper f r.kind r.values × RunsProper f rs

run_proper : (f : Family) (t : ℕ) (vs : List (List ℕ)) (os : List Object) → RunProper f t vs → AllProper f os
    → AllProper f (repeats t vs ++ os)
run_proper f t [] os h k = k
run_proper f t (v ∷ vs) os h k = (h.0, run_proper f t vs os h.1 k)

-- then each object is one that the message can hold
pub runs_proper : (f : Family) (rs : List Run) → RunsProper f rs → AllProper f (in_runs rs)
runs_proper f [] h = tt
runs_proper f (r ∷ rs) h = run_proper f r.kind r.values (in_runs rs) h.0 (runs_proper f rs h.1)

-- how many bytes they take at most; an object has one byte for its length
abbrev pub size_of : List (List ℕ) → ℕ
size_of [] = 0
size_of (v ∷ vs) = min (2 + length v) 255 + size_of vs

abbrev pub size_of_all : List Run → ℕ
size_of_all [] = 0
size_of_all (r ∷ rs) = size_of r.values + size_of_all rs

-- of a run and what follows it
run_size : (t : ℕ) (vs : List (List ℕ)) (os : List Object) → length (encoded (repeats t vs ++ os)) ≤ size_of vs + length (encoded os)
unfolding encoded
run_size t [] os = omega arith
run_size t (v ∷ vs) os = simp length-append (omega (arith, object_length t v, object_most (length v) t v (omega arith), run_size t vs os))

-- of one run alone
pub repeats_size : (t : ℕ) (vs : List (List ℕ)) → length (encoded (repeats t vs)) ≤ size_of vs
unfolding encoded
repeats_size t vs = let h = rw append-nil at (run_size t vs []) in omega arith

-- of all runs
pub runs_size : (rs : List Run) → length (encoded (in_runs rs)) ≤ size_of_all rs
unfolding encoded
runs_size [] = omega arith
runs_size (r ∷ rs) = omega (arith, run_size r.kind r.values (in_runs rs), runs_size rs)
