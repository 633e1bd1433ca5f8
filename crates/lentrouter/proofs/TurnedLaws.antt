-- A router's call in the lent bytes: what the buffers hold after each way of it.
use Rattle.std.specs.Prelude.{Result, Ok, Err, ⊤}
use Prim.Native.Nat.{ℕ, ◌<◌}
use mathlib.Core.Path.{◌≡◌, refl, sym}
use mathlib.Core.List.{List, []}
use native.Mathlib.Omega.{arith}
use lib.ListN.{length}
use borrow.Author.Tests.{eq-eqb}
use Rattle.places.specs.declared.place.Place.{Place}
use Rattle.refusal.specs.declared.Outcome.{Outcome}
use Rattle.refusal.specs.Step.{done, refused_with, by_writer}
use Rattle.refusal.specs.declared.Refusal.{Refusal}
use Rattle.refusal.specs.declared.Refusal.TheVariants.{ClockBack}
use Rattle.refusal.specs.declared.To.TheVariants.{Everyone}
use Rattle.object.specs.declared.family.Family.{Family}
use Rattle.object.specs.Family.{limit_of}
use Rattle.places.specs.declared.state.Router.{Router}
use Rattle.refusal.specs.Step.{Leaves}
use Rattle.turn.specs.Outcome.{Step, in_room}
use Rattle.turn.specs.OnePlace.{turned_to}
use Rattle.message.proofs.BeginLaws.{room_small, room_back}
use Rattle.storedrouter.specs.Router.{router_from, router_size, RouterStored}
use Rattle.inplace.specs.Change.{Holds}
use Rattle.inplace.proofs.HoldsLaws.{holds_same, holds_then, stored_again}
use Rattle.handed.specs.Code.{coded, wrote_to, addressed}
use Rattle.shell.specs.Shell.{called}
use Rattle.shell.proofs.ShellLaws.{misused_quietly, ended_quietly, misused, ended}
use Rattle.lentrouter.specs.Begin.{Stops, other_size, no_room, clock_back}
use Rattle.lentrouter.specs.Router.{RouterLeaves, RouterEnds, EndsTurn}

-- a call without an output: the outcome o, told in one number
router_ended_law : (s : Step) {o : Outcome Router} {state : List ℕ} {number : ℕ} {after : List ℕ} → length state ≡ router_size → o ≡ s.outcome
    → Holds state after o.state → number ≡ coded o.answer o.to o.written → RouterEnds state s number after
router_ended_law s fits is h told = rw (sym is) (ended_quietly fits told h.stored (h.holds fits))

-- one with an output
router_left : {s : Step} {o : Outcome Router} {state out to : List ℕ} {number : ℕ} {after wrote given : List ℕ} → length state ≡ router_size
    → Leaves s o wrote → Holds state after o.state → number ≡ coded o.answer o.to o.written
    → given ≡ addressed o.to to → RouterLeaves state out to s number after wrote given
router_left {s} fits l h told sent = ended fits (router_ended_law s fits l.told h told) l.left (rw (sym l.told) sent)

-- a beginning that does not stop the call
pub not_stopped : (begun : Result ⊤ ℕ) → ((number : ℕ) → begun ≡ Err number → ⊥) → begun ≡ Ok tt
not_stopped (Ok tt) n = refl
not_stopped (Err number) n = absurd (n number refl)

-- a call that stops before it begins leaves all as it was
pub router_stopped : (f : Family) (rest : Step) {state out to : List ℕ} {clock limit number : ℕ} {after : List ℕ} → limit ≡ limit_of f
    → Stops state clock (length out) limit number → after ≡ state → RouterLeaves state out to (in_room f (router_from state) clock out λ _. rest) number after out to
router_stopped f rest e (other_size other told) same = rw (same, told) (misused other)
router_stopped f rest {state = state} e (no_room fits h told) same = rw same (router_left fits (room_small _ _ (rw e at h) refl) (holds_same state) told refl)
router_stopped f rest {state = state} e (clock_back fits k h told) same = rw same (router_left fits (room_back _ _ _ (rw e at k) h refl) (holds_same state) told refl)

-- one without an output
pub router_stopped_quietly : (s : Step) {state : List ℕ} {clock number : ℕ} {after : List ℕ} → Stops state clock 0 0 number → after ≡ state
    → (clock < (router_from state).clock → (refused_with ClockBack (router_from state) []).outcome ≡ s.outcome) → RouterEnds state s number after
router_stopped_quietly s (other_size other told) same back = rw (same, told) (misused_quietly other)
router_stopped_quietly s (no_room fits h told) same back = absurd (omega arith)
router_stopped_quietly s {state} (clock_back fits k h told) same back = rw same (router_ended_law s fits (back h) (holds_same state) told)

-- what has lapsed has gone from the bytes, which are then s₁; the turn of place i is over
module _ {t : Outcome Place} {i : ℕ} {q : Router} {state s₁ to : List ℕ} {number : ℕ} {after given : List ℕ} where
  -- with an output
  pub turn_left : {s : Step} {out wrote : List ℕ} → length state ≡ router_size → Holds state s₁ q → EndsTurn t i s₁ to number after given
      → Leaves s (turned_to (router_from s₁) i t) wrote → RouterLeaves state out to s number after wrote given
  turn_left fits lapsed e l = router_left fits l (holds_then fits lapsed e.kept) e.told e.sent

  -- without one
  pub turn_ended : (s : Step) → length state ≡ router_size → Holds state s₁ q → EndsTurn t i s₁ to number after given
      → turned_to (router_from s₁) i t ≡ s.outcome → RouterEnds state s number after
  turn_ended s fits lapsed e l = router_ended_law s fits l (holds_then fits lapsed e.kept) e.told

-- what has lapsed has gone from the bytes, and the beacon goes out: the state stays so, and no address is handed out
pub broadcast_left : {s : Step} (w : Result ℕ Refusal) {state s₁ out to : List ℕ} {number : ℕ} {r : Router} {wrote : List ℕ} → length state ≡ router_size → Holds state s₁ r
    → number ≡ wrote_to Everyone w → Leaves s (by_writer w done (router_from s₁) (router_from s₁) Everyone) wrote
    → RouterLeaves state out to s number s₁ wrote to
broadcast_left (Err why) {s₁ = s₁} fits lapsed told l = router_left fits l (holds_then fits lapsed (holds_same s₁)) told refl
broadcast_left (Ok n) {s₁ = s₁} fits lapsed told l = router_left fits l (holds_then fits lapsed (holds_same s₁)) told refl

-- a call without an output leaves a stored router where it found one
pub stays_stored_quietly : (s : Step) {state : List ℕ} {number : ℕ} {after : List ℕ} → length state ≡ router_size
    → RouterEnds state s number after → RouterStored state → RouterStored after
unfolding called
stays_stored_quietly s {state} fits l k =
    let b = eq-eqb (length state) router_size fits in
    stored_again (rw b at (l.kept k)) (l.again fits)

-- so does one with an output
pub stays_stored : {s : Step} {state out to : List ℕ} {number : ℕ} {after wrote given : List ℕ} → length state ≡ router_size
    → RouterLeaves state out to s number after wrote given → RouterStored state → RouterStored after
stays_stored {s} fits l k = stays_stored_quietly s fits l.ends k
