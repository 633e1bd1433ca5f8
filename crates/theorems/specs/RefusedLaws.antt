-- What a refusal leaves of a party that has a state, the reason that it has at the router, and that it is not a call that is done.
use Rattle.std.specs.Prelude.{ℕ, Bool, ◌≡◌, ◌==◌, Result, Option, Ok, Err, Some, None}
use Rattle.octets.specs.Choice.{pick, either}
use Rattle.octets.proofs.ChoiceLaws.{never}
use Rattle.refusal.specs.declared.Refusal.{Refusal}
use Rattle.refusal.specs.Table.{refusal_number}
use Rattle.turn.specs.Writes.{type_reason, network_reason, old_reason, full_reason}

-- 20 and 7, after which nothing changes
abbrev pub changes_nothing : Refusal → Bool
changes_nothing why = either (refusal_number why == 20) (refusal_number why == 7)

-- 'After 20 or 7 nothing changes. After others only the clock and lapsing above': of a state, and of what lapsing made of it
abbrev pub left_after : {S : Type 0} → Refusal → S → S → S
left_after why state lapsed = pick (changes_nothing why) state lapsed

-- 'At the router, refusals 9, 10, 12 and 14 send a failure with .. a reason ..; the rest write nothing'
abbrev pub reason_of : ℕ → Option ℕ
reason_of n =
    pick (n == 9) (Some type_reason)
    (pick (n == 10) (Some network_reason)
    (pick (n == 12) (Some old_reason)
    (pick (n == 14) (Some full_reason) None)))

-- a refusal is not a call that is done
pub not_done : {A : Type 0} {why : Refusal} {new : A} → ◌≡◌ {A = Result A Refusal} (Err why) (Ok new) → ⊥
not_done e = never cc

-- one answer has one refusal
pub told_why : {A : Type 0} {v w : Refusal} → ◌≡◌ {A = Result A Refusal} (Err v) (Err w) → v ≡ w
told_why e = cc
