-- A login over the boundary: the number that it hands back (DECISIONS, 52), and every byte of the lent buffer.
use Rattle.std.specs.Prelude.{ℕ, ◌≡◌, List}
use Rattle.refusal.specs.declared.To.TheVariants.{Nobody}
use Rattle.server.specs.Login.{Step}
use Rattle.handed.specs.Code.{wrote_to}

-- what is written goes back to where the request came from: the number names no destination
pub record Answers (s : Step) (number : ℕ) (after : List ℕ) : Type 0 where
  pub told : number ≡ wrote_to Nobody s.outcome
  pub left : after ≡ s.out
