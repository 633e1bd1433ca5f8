-- The tests that every reader makes: the header's, and what the answer of `find` says.
use Prim.Native.Nat.{ℕ, ◌≤◌, ◌<◌}
use mathlib.Core.Bool.{Bool, true, false, ◌&&◌}
use mathlib.Core.List.{List, [], ◌∷◌}
use mathlib.Core.Path.{◌≡◌, refl, ap}
use native.Mathlib.Omega.{arith}
use lib.ListN.{length}
use borrow.Author.Tests.{lt-ltb, le-ltb}
use Rattle.std.specs.Prelude.{Result, ⊤, Ok, Err, Option, Some, None}
use Rattle.std.specs.Option.{is_some}
use Rattle.std.specs.Result.{is_err}
use Rattle.std.specs.List.{list_all}
use Rattle.std.proofs.lemmas.Option.{same_Some}
use Rattle.octets.specs.declared.part.Part.{Part}
use Rattle.refusal.specs.declared.Refusal.TheVariants.{ShortHeader, BadLength}
use Rattle.object.specs.Family.{header_of, limit_of}
use Rattle.octets.specs.Choice.{both, flip, every}
use Rattle.object.specs.Walk.{Item, is_whole, found_of}
use Rattle.object.specs.declared.family.Family.{Family}
use Rattle.message.specs.Reading.{length_of, headed, value_of, is_there, fits_in, fits_value}

-- one law for each exit of `head`
module _ (f : Family) (m : List ℕ) {header : ℕ} (eh : header ≡ header_of f) where
  pub head_short : length m < header → Err ShortHeader ≡ headed f m
  unfolding headed
  head_short h = rw (lt-ltb (length m) (header_of f) (omega arith))

  module _ (long : header ≤ length m) {end : ℕ} (ee : end ≡ length_of m) where
    pub head_low : end < header → Err BadLength ≡ headed f m
    unfolding headed
    head_low h = rw (le-ltb (length m) (header_of f) (omega arith), lt-ltb (length_of m) (header_of f) (omega arith))

    module _ (low : header ≤ end) {limit : ℕ} (el : limit ≡ limit_of f) where
      pub head_high : limit < end → Err BadLength ≡ headed f m
      unfolding headed
      head_high h =
          rw (
            le-ltb (length m) (header_of f) (omega arith),
            le-ltb (length_of m) (header_of f) (omega arith),
            lt-ltb (limit_of f) (length_of m) (omega arith),
          )

      module _ (high : end ≤ limit) where
        pub head_past : length m < end → Err BadLength ≡ headed f m
        unfolding headed
        head_past h =
            rw (
              le-ltb (length m) (header_of f) (omega arith),
              le-ltb (length_of m) (header_of f) (omega arith),
              le-ltb (limit_of f) (length_of m) (omega arith),
              lt-ltb (length m) (length_of m) (omega arith),
            )

        pub head_ends : end ≤ length m → Ok end ≡ headed f m
        unfolding headed
        head_ends h =
            rw (
              le-ltb (length m) (header_of f) (omega arith),
              le-ltb (length_of m) (header_of f) (omega arith),
              le-ltb (limit_of f) (length_of m) (omega arith),
              le-ltb (length m) (length_of m) (omega arith),
            ) (ap Ok ee)

-- what `find` answered of the object o
pub found_there : (o : Option Item) → is_some (found_of o) ≡ is_there (value_of o)
unfolding found_of
found_there None = refl
found_there (Some i) = refl

-- the library's words
pub all_every : {A : Type 0} (test : A → Bool) (xs : List A) → list_all test xs ≡ every test xs
unfolding every
all_every test [] = refl
all_every test (x ∷ xs) = rw (all_every test xs) (go (test x))
  where
    go : (b : Bool) → (b && every test xs) ≡ both b (every test xs)
    go true = refl
    go false = refl

pub is_broken : (ends : Result ⊤ ℕ) → is_err ends ≡ flip (is_whole ends)
is_broken (Ok _) = refl
is_broken (Err at) = refl

pub fits_none : (f : Family) (t : ℕ) (o : Option Item) → None ≡ found_of o → fits_value f t (value_of o) ≡ true
unfolding found_of
fits_none f t None e = refl
fits_none f t (Some i) e = cc

pub fits_some : (f : Family) (t : ℕ) (o : Option Item) {at n : ℕ} → Some (record { at = at; len = n }) ≡ found_of o → fits_value f t (value_of o) ≡ fits_in f t n
unfolding found_of
fits_some f t None e = cc
fits_some f t (Some i) {at} {n} e = let size : n ≡ length i.value = ap (λ (p : Part). p.len) (same_Some _ _ e) in rw size
