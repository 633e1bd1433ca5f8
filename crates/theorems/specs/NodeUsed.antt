-- The stamps that a node used: one that it may use next is above all of them.
use Rattle.std.specs.Prelude.{ℕ, ◌≤◌, ◌<◌, true, ◌≡◌, Option, Some, None}
use Rattle.std.proofs.Common.{arith, ltb-true}
use Rattle.hearing.specs.Hear.{is_above}

-- a stamp is not above all that the node used
abbrev pub UpTo : ℕ → Option ℕ → Type 0
UpTo stamp None = ⊥
UpTo stamp (Some u) = stamp ≤ u

-- a stamp that may be used next is above each that was used
pub up_to_above : (s stamp : ℕ) (u : Option ℕ) → UpTo s u → is_above stamp u ≡ true → s < stamp
up_to_above s stamp None b e = absurd b
up_to_above s stamp (Some u) b e = let l : u < stamp = ltb-true u stamp e in omega arith
