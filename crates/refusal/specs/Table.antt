-- The table of the paper, 'Numbers a call can hand back'.
use Rattle.std.specs.Prelude.{ℕ, Result, Ok, Err, ⊤}
use Rattle.refusal.specs.declared.Refusal.{Refusal}
use Rattle.refusal.specs.declared.Refusal.TheVariants.{ShortHeader, BadLength, OtherCode, BrokenObject, MissingObject, BadValue, ClockBack, OtherKey, SecurityType, NetworkNumber, StampAhead, StampOld, StampUsed, NoPlace, NoAttempt, WrongAuthenticator, WrongCheck, OutOfRange, BrokenBook, SmallOutput, NotExpected, UnknownRouter}

-- each refusal's number; where a row says more than the name, what it says
abbrev pub refusal_number : Refusal → ℕ
-- fewer bytes than a header
refusal_number ShortHeader = 1
-- Length below the header, above the limit, or above the bytes given
refusal_number BadLength = 2
-- Code not one that the call takes
refusal_number OtherCode = 3
-- an object without its length byte, with Length below 2, or past the end
refusal_number BrokenObject = 4
-- a mandatory object is missing
refusal_number MissingObject = 5
-- a check value, seed, authentication data or object 203 not of 16 bytes, or an empty name
refusal_number BadValue = 6
-- the clock is below the stored one
refusal_number ClockBack = 7
-- S is 1, which names the other session key, in a request, success or terminating message
refusal_number OtherKey = 8
-- the security list is not one number, 2 or 3; at a node: its type is not in the beacon's list
refusal_number SecurityType = 9
-- our network number is not in the list
refusal_number NetworkNumber = 10
-- the stamp is above the clock
refusal_number StampAhead = 11
-- the stamp is more than W below the clock
refusal_number StampOld = 12
-- the stamp is not above the last, and it is no repeat
refusal_number StampUsed = 13
-- there is no place for a new node
refusal_number NoPlace = 14
-- the reply fits no waiting attempt
refusal_number NoAttempt = 15
refusal_number WrongAuthenticator = 16
refusal_number WrongCheck = 17
-- a setting, or a field to write, is out of its range
refusal_number OutOfRange = 18
refusal_number BrokenBook = 19
-- the output has fewer than 1,500 (MISP) or 4,096 (MISAUTH) bytes
refusal_number SmallOutput = 20
-- the message is not expected in this state
refusal_number NotExpected = 21
-- the router is not in the book
refusal_number UnknownRouter = 22

-- the refusal's number, or 0 for none
abbrev pub answer_number : Result ⊤ Refusal → ℕ
answer_number (Ok _) = 0
answer_number (Err why) = refusal_number why
