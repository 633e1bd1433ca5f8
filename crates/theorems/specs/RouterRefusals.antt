-- What a refused call leaves at the router, for every state, clock, message and buffer: the state is the one of `left_by`; nothing is written and the
-- buffer stays, save that 9, 10, 12 and 14 of a request write the failure with the request's stamp and the refusal's reason, to the request's sender.
use Rattle.std.specs.Prelude.{ℕ, ◌≡◌, refl, List, [], Option, Some, None, Err, Ok}
use Rattle.std.proofs.Common.{sym, ◌∙◌}
use Rattle.refusal.specs.Step.{refused_with, sends}
use Rattle.octets.proofs.ChoiceLaws.{never, pick_true, pick_false}
use Rattle.refusal.specs.declared.Refusal.{Refusal}
use Rattle.refusal.specs.declared.To.TheVariants.{Address}
use Rattle.refusal.specs.Table.{refusal_number}
use Rattle.misp.specs.Failure.{failure_bytes}
use Rattle.misp.specs.Request.{RequestValues, read_request, request_told}
use Rattle.places.specs.declared.state.Router.{Router}
use Rattle.places.specs.State.{lapsed_at}
use Rattle.turn.specs.Outcome.{Step}
use Rattle.router.specs.Beacon.{beaconed}
use Rattle.entering.specs.Request.{requested}
use Rattle.settling.specs.Reply.{replied}
use Rattle.router.specs.Close.{closing, closed}
use Rattle.theorems.specs.RefusedLaws.{changes_nothing, left_after, reason_of, told_why, not_done}
use Rattle.theorems.specs.RouterEffects.{Call, beacon, request_from, reply, terminate, terminating, clock_of, out_of, step_of, Effect, nothing, lapses, fails, passes, changes, passes_done, changes_done, effect}

-- 'After 20 or 7 nothing changes. After others only the clock and lapsing above'
abbrev pub left_by : Refusal → ℕ → Router → Router
left_by why now r = left_after why r (lapsed_at now r)

-- A call that is refused leaves that state and writes nothing (`refused_with`: 0 bytes, to nobody, and the buffer as it was).
abbrev pub Quiet : Router → ℕ → List ℕ → Step → Type 0
Quiet r now out s = (why : Refusal) → s.outcome.answer ≡ Err why → s ≡ refused_with why (left_by why now r) out

-- what goes out, m being the request: nothing, or to its sender the failure with its stamp and the reason
abbrev pub Refuses : Option ℕ → Refusal → Router → List ℕ → List ℕ → List ℕ → Step → Type 0
Refuses None why q from m out s = s ≡ refused_with why q out
Refuses (Some reason) why q from m out s =
    (v : RequestValues) × (request_told m (read_request m) ≡ Ok v) × (s ≡ sends (Err why) q (Address from) (failure_bytes v.stamp reason) out)

-- A request that is refused leaves the same state, and writes a failure where the refusal has a reason.
abbrev pub Tells : Router → ℕ → List ℕ → List ℕ → List ℕ → Step → Type 0
Tells r now from m out s =
    (why : Refusal) → s.outcome.answer ≡ Err why → Refuses (reason_of (refusal_number why)) why (left_by why now r) from m out s

-- a refused call, whatever its kind
module _ (c : Call) (r : Router) (why : Refusal) where
  -- it writes nothing and the refusal has no reason, or it is a request whose sender is told the reason
  data Says (s : Step) : Type 0 where
    silent : s ≡ refused_with why (left_by why (clock_of c) r) (out_of c) → reason_of (refusal_number why) ≡ None → Says s
    failure : (from m out : List ℕ) (v : RequestValues) (reason : ℕ) → c ≡ request_from (clock_of c) from m out → request_told m (read_request m) ≡ Ok v
        → reason_of (refusal_number why) ≡ Some reason
        → s ≡ sends (Err why) (left_by why (clock_of c) r) (Address from) (failure_bytes v.stamp reason) out → Says s

  -- a call that is refused so says one of these
  says : (s : Step) → Effect c r s (clock_of c) → s.outcome.answer ≡ Err why → Says s
  says s (nothing w n x is) f =
      let same : w ≡ why = told_why (rw is at f) in
      silent (is ∙ rw (same, pick_true (changes_nothing why) r (lapsed_at (clock_of c) r) (rw same at n)) refl) (rw same at x)
  says s (lapses l w n x is) f =
      let same : w ≡ why = told_why (rw is at f) in
      silent (is ∙ rw (same, pick_false (changes_nothing why) r (lapsed_at (clock_of c) r) (rw same at n)) refl) (rw same at x)
  says s (fails l from m out v w reason e t n x is) f =
      let same : w ≡ why = told_why (rw is at f) in
      failure from m out v reason e t (rw same at x) (is ∙ rw (same, pick_false (changes_nothing why) r (lapsed_at (clock_of c) r) (rw same at n)) refl)
  says s (passes l x) f = absurd (not_done (sym f ∙ (passes_done r (clock_of c) c s x).0))
  says s (changes l x) f = absurd (not_done (sym f ∙ changes_done r (clock_of c) c s x))

-- a call that is no request, if it is refused, leaves that state and writes nothing
quiet : (c : Call) (r : Router) → ((from m out : List ℕ) → c ≡ request_from (clock_of c) from m out → ⊥) → Quiet r (clock_of c) (out_of c) (step_of r c)
quiet c r no_request why f = go (step_of r c) (says c r why (step_of r c) (effect r c) f)
  where
    go : (s : Step) → Says c r why s → s ≡ refused_with why (left_by why (clock_of c) r) (out_of c)
    go s (silent is x) = is
    go s (failure from m out v reason e t x is) = absurd (no_request from m out e)

module _ (r : Router) (now : ℕ) where
  module _ (out : List ℕ) where
    -- what a beacon leaves that is not written
    pub beaconed_refused : (serial : ℕ) → Quiet r now out (beaconed r now serial out)
    beaconed_refused serial = quiet (beacon now serial out) r λ from m out e. never cc

    -- what a refused reply of the server leaves
    pub replied_refused : (m : List ℕ) → Quiet r now out (replied r now m out)
    replied_refused m = quiet (reply now m out) r λ from m out e. never cc

    -- what a terminating message leaves that is not written
    pub closing_refused : (to : List ℕ) → Quiet r now out (closing r now to out)
    closing_refused to = quiet (terminate now to out) r λ from m out e. never cc

  module _ (from m : List ℕ) where
    -- what a refused terminating message leaves; there is no buffer
    pub closed_refused : Quiet r now [] (closed r now from m)
    closed_refused = quiet (terminating now from m) r λ from m out e. never cc

    -- what a refused request leaves and writes
    pub requested_refused : (out : List ℕ) → Tells r now from m out (requested r now from m out)
    requested_refused out why f = go (requested r now from m out) (says (request_from now from m out) r why (requested r now from m out) (effect r (request_from now from m out)) f)
      where
        go : (s : Step) → Says (request_from now from m out) r why s → Refuses (reason_of (refusal_number why)) why (left_by why now r) from m out s
        go s (silent is x) = rw x is
        go s (failure from' m' out' v reason e t x is) =
            let same_from : from' ≡ from = cc in
            let same_m : m' ≡ m = cc in
            let same_out : out' ≡ out = cc in
            rw x (v, rw same_m at t, rw (same_from, same_out) at is)
