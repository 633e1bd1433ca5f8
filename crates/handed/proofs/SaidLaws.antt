-- A number that may be missing, over the boundary and back.
use Rattle.std.specs.Prelude.{Option, Some, None}
use Prim.Native.Nat.{ℕ, ◌≤◌}
use mathlib.Core.Path.{◌≡◌, refl}
use mathlib.Core.Bool.{true}
use native.Mathlib.Omega.{arith}
use borrow.Author.Tests.{ne_eqb, ltb-true}
use Rattle.message.specs.Writing.{is_below}
use Rattle.handed.specs.Missing.{no_number, number_said, optional_said}

-- one that is in a field's range, or missing, is handed back as it was handed out
pub said_back : (o : Option ℕ) (bound : ℕ) → bound ≤ no_number → is_below o bound ≡ true → optional_said (number_said o) ≡ o
unfolding optional_said is_below
said_back None bound most below = refl
said_back (Some n) bound most below =
    let h = ltb-true n bound below in
    rw (ne_eqb n no_number (λ (e : n ≡ no_number). omega (arith, h, e, most)))
