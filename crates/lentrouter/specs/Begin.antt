-- How a router's call over a lent state begins ('At each call past refusals 20 and 7 the clock .. is stored, and what has lapsed goes';
-- 'After 20 or 7 nothing changes'; another size: DECISIONS, 52).
use Rattle.std.specs.Prelude.{ℕ, ◌≤◌, ◌<◌, ◌≡◌, List, length, Result, Ok, Err, ⊤}
use Rattle.refusal.specs.declared.Refusal.TheVariants.{SmallOutput, ClockBack}
use Rattle.refusal.specs.declared.To.TheVariants.{Nobody}
use Rattle.handed.specs.Code.{coded, misuse}
use Rattle.places.specs.State.{lapsed_at}
use Rattle.storedrouter.specs.Router.{router_from, router_size}
use Rattle.inplace.specs.Change.{Holds}

-- for `begin`: why a call stops, in this order: another size, 20, 7
pub data Stops (state : List ℕ) (clock room limit number : ℕ) : Type 0 where
  other_size : (length state ≡ router_size → ⊥) → number ≡ misuse → Stops state clock room limit number
  no_room : length state ≡ router_size → room < limit → number ≡ coded (Err SmallOutput) Nobody 0 → Stops state clock room limit number
  clock_back : length state ≡ router_size → limit ≤ room → clock < (router_from state).clock → number ≡ coded (Err ClockBack) Nobody 0
      → Stops state clock room limit number

-- for `begin`: the call goes on; the clock is stored, and what has lapsed is gone
pub record GoesOn (state : List ℕ) (clock room limit : ℕ) (after : List ℕ) : Type 0 where
  pub fits : length state ≡ router_size
  pub enough : limit ≤ room
  pub later : (router_from state).clock ≤ clock
  pub lapsed : Holds state after (lapsed_at clock (router_from state))

-- for `begin`: the buffer keeps its size; `Err` has the number of a call that stops, and the state stays; with `Ok` it goes on
pub record CallBegins (state : List ℕ) (clock room limit : ℕ) (begun : Result ⊤ ℕ) (after : List ℕ) : Type 0 where
  pub size : length after ≡ length state
  pub stays : (number : ℕ) → begun ≡ Err number → after ≡ state
  pub stops : (number : ℕ) → begun ≡ Err number → Stops state clock room limit number
  pub goes_on : begun ≡ Ok tt → GoesOn state clock room limit after
