-- The number of a call fits 32 bits and is taken apart again: the refusal, the destination and the bytes written.
use Rattle.std.specs.Prelude.{Result, Ok, Err, ⊤}
use Prim.Native.Nat.{ℕ, ◌+◌, ◌*◌, ◌≤◌, ◌%◌, ◌/◌}
use mathlib.Core.Path.{◌≡◌}
use native.Mathlib.Omega.{arith}
use Rattle.refusal.specs.declared.Refusal.{Refusal}
use Rattle.refusal.specs.declared.Refusal.TheVariants.{ShortHeader, BadLength, OtherCode, BrokenObject, MissingObject, BadValue, ClockBack, OtherKey, SecurityType, NetworkNumber, StampAhead, StampOld, StampUsed, NoPlace, NoAttempt, WrongAuthenticator, WrongCheck, OutOfRange, BrokenBook, SmallOutput, NotExpected, UnknownRouter}
use Rattle.refusal.specs.declared.To.{To}
use Rattle.refusal.specs.declared.To.TheVariants.{Nobody, Everyone, Server, Address}
use Rattle.refusal.specs.Table.{refusal_number, answer_number}
use Rattle.handed.specs.Code.{misuse, to_number, coded}

-- each part is small
pub to_small : (to : To) → to_number to ≤ 3
to_small Nobody = omega arith
to_small Everyone = omega arith
to_small Server = omega arith
to_small (Address _) = omega arith

number_small : (why : Refusal) → refusal_number why ≤ 22
number_small ShortHeader = omega arith
number_small BadLength = omega arith
number_small OtherCode = omega arith
number_small BrokenObject = omega arith
number_small MissingObject = omega arith
number_small BadValue = omega arith
number_small ClockBack = omega arith
number_small OtherKey = omega arith
number_small SecurityType = omega arith
number_small NetworkNumber = omega arith
number_small StampAhead = omega arith
number_small StampOld = omega arith
number_small StampUsed = omega arith
number_small NoPlace = omega arith
number_small NoAttempt = omega arith
number_small WrongAuthenticator = omega arith
number_small WrongCheck = omega arith
number_small OutOfRange = omega arith
number_small BrokenBook = omega arith
number_small SmallOutput = omega arith
number_small NotExpected = omega arith
number_small UnknownRouter = omega arith

answer_small : (a : Result ⊤ Refusal) → answer_number a ≤ 22
answer_small (Ok _) = omega arith
answer_small (Err why) = number_small why

-- numbers alone
apart : (n t w : ℕ) → n ≤ 22 → t ≤ 3
    → ((n + 256 * t + 65536 * w) % 256 ≡ n) × (((n + 256 * t + 65536 * w) / 256 % 256 ≡ t) × ((n + 256 * t + 65536 * w) / 65536 ≡ w))
apart n t w hn ht = (omega arith, (omega arith, omega arith))

module _ (a : Result ⊤ Refusal) (to : To) (written : ℕ) where
  -- byte 0, byte 1, and bytes 2 and 3
  pub coded_answer : coded a to written % 256 ≡ answer_number a
  unfolding coded
  coded_answer = (apart (answer_number a) (to_number to) (written % 65536) (answer_small a) (to_small to)).0

  pub coded_to : coded a to written / 256 % 256 ≡ to_number to
  unfolding coded
  coded_to = (apart (answer_number a) (to_number to) (written % 65536) (answer_small a) (to_small to)).1.0

  pub coded_written : coded a to written / 65536 ≡ written % 65536
  unfolding coded
  coded_written = (apart (answer_number a) (to_number to) (written % 65536) (answer_small a) (to_small to)).1.1

  -- no call that was made hands back the number of misuse
  pub not_misuse : coded a to written ≡ misuse → ⊥
  not_misuse e = let h = answer_small a in let same = coded_answer in omega arith
