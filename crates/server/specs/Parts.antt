-- What the private functions are held to: what is made of a writer's answer, and what stands before the header is looked at (DECISIONS, 62).
use Rattle.std.specs.Prelude.{ℕ, ◌≤◌, ◌≡◌, true, List, ◌++◌, length, take, drop, Result, Ok, Err}
use Rattle.refusal.specs.declared.Refusal.{Refusal}
use Rattle.object.specs.declared.family.Family.TheVariants.{Misauth}
use Rattle.object.specs.Family.{limit_of}
use Rattle.authenticator.specs.Authenticator.{sealed}
use Rattle.book.specs.Whole.{whole_book}
use Rattle.server.specs.Login.{Step, refused_with}

-- what a writer wrote goes out with its Authenticator; output past it stays. A refusal of the writer would be passed on
abbrev pub by_written : Result ℕ Refusal → List ℕ → List ℕ → Step
by_written (Err why) secret out = refused_with why out
by_written (Ok n) secret out = record { outcome = Ok n; out = sealed secret (take n out) ++ drop n out }

-- 20 and 19 do not stand against a login
pub record Ready (mill visitors out : List ℕ) : Type 0 where
  pub mill_whole : whole_book mill ≡ true
  pub visitors_whole : whole_book visitors ≡ true
  pub room : limit_of Misauth ≤ length out
