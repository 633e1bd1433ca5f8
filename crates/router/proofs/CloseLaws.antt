-- Terminating messages at the router: each way of the calls.
use Rattle.std.specs.Prelude.{Result, Option, Ok, Err, Some, None, ⊤}
use Prim.Native.Nat.{ℕ, ◌≤◌}
use native.Mathlib.Omega.{arith}
use mathlib.Core.Path.{◌≡◌, refl, sym, ap, ◌∙◌}
use mathlib.Core.Bool.{true, false}
use mathlib.Core.List.{List, []}
use lib.ListN.{length}
use borrow.Author.Tests.{le-ltb}
use Rattle.refusal.specs.declared.Outcome.{Outcome}
use Rattle.refusal.specs.Step.{done, refused_with, silent, sends, by_writer}
use Rattle.octets.specs.Choice.{pick}
use Rattle.refusal.specs.declared.Refusal.{Refusal}
use Rattle.refusal.specs.declared.Refusal.TheVariants.{NotExpected}
use Rattle.refusal.specs.declared.To.TheVariants.{Address}
use Rattle.object.specs.declared.family.Family.TheVariants.{Misp}
use Rattle.object.specs.Family.{limit_of}
use Rattle.message.specs.Writing.{Writes}
use Rattle.misp.specs.declared.terminating.Terminating.{Terminating}
use Rattle.misp.specs.Terminating.{terminating_from, read_terminating, terminating_told}
use Rattle.checked.specs.Checked.{terminating_of}
use Rattle.checked.proofs.TerminatingLaws.{terminating_of_fits}
use Rattle.checked.proofs.UnderKeyLaws.{under_key_none}
use Rattle.places.specs.declared.place.Place.{Place}
use Rattle.places.specs.declared.state.Router.{Router}
use Rattle.places.specs.declared.state.Settings.{Settings}
use Rattle.places.specs.Place.{fresh_place}
use Rattle.places.specs.State.{lapsed_at, find_of}
use Rattle.refusal.specs.Step.{Leaves, by_answer}
use Rattle.turn.specs.Outcome.{Step, place_of, with_place}
use Rattle.turn.specs.OnePlace.{turned_to}
use Rattle.router.specs.Close.{closed_place, close_at, closing, answer_to, closed_at, closed_now, closed}
use Rattle.router.specs.Parts.{place_number, TurnsFor, closing_now}
use Rattle.places.proofs.LapseLaws.{lapsed_length}
use Rattle.refusal.proofs.StepLaws.{leaves_same, leaves_told}
use Rattle.turn.proofs.StepLaws.{sent_whole}
use Rattle.turn.proofs.TurnLaws.{place_past, turned_by, turned_still}

-- a router and its place i
module _ (q : Router) (i : ℕ) {p : Place} (is : place_of i q ≡ p) where
  -- a refusal, where the step is one
  stays_by : {x : Step} {t : Outcome Place} {why : Refusal} {out : List ℕ} → x ≡ refused_with why q out → t ≡ (refused_with why p []).outcome → Leaves x (turned_to q i t) out
  stays_by k e = leaves_same k (leaves_told (turned_still q i is e))

  -- 1 to 6 come before the place
  pub told_unread : (from m : List ℕ) {t : Outcome Place} {why : Refusal} → read_terminating m ≡ Err why → t ≡ (refused_with why p []).outcome
      → Leaves (closed_now q from m) (turned_to q i t) []
  unfolding terminating_told
  told_unread from m e z = stays_by (rw e) z

  -- the router has 64 places and these settings
  module _ {s : Settings} (own : q.settings ≡ s) (whole : length q.places ≡ 64) where
    -- a step by the place that an address has is a step by this place: where it has none, place 64 counts as a fresh one
    at_place : (w : Option ℕ) → i ≡ place_number w → (g : Option ℕ → Step) (f : ℕ → Place → Step)
        → ((n : ℕ) → g None ≡ f n fresh_place) → ((n : ℕ) → g (Some n) ≡ f n (place_of n q)) → g w ≡ f i p
    at_place None e g f none some = none i ∙ ap (f i) (place_past q i whole (omega (arith, e)) ∙ is)
    at_place (Some n) e g f none some = some n ∙ ap (λ (k : ℕ). f k (place_of k q)) (sym e) ∙ ap (f i) is

    module _ (to out : List ℕ) (large : limit_of Misp ≤ length out) (e : i ≡ place_number (find_of q.places to)) where
      -- the step that sends the terminating message and closes the session
      abbrev sending : Settings → ℕ → Place → Step
      sending z n x = sends done (with_place n (closed_place x) q) (Address to) (terminating_of x.session.key z.address to x.session.stamp) out

      -- past 20 this place decides
      now_by : closing_now q to out ≡ pick p.session.live (sending s i p) (refused_with NotExpected q out)
      now_by =
          rw (le-ltb _ _ large)
          (at_place (find_of q.places to) e (λ (x : Option ℕ). close_at x q to out)
          (λ (n : ℕ) (x : Place). pick x.session.live (sending s n x) (refused_with NotExpected q out))
          (λ n. refl)
          λ n. ap (λ (z : Settings). pick (place_of n q).session.live (sending z n (place_of n q)) (refused_with NotExpected q out)) own)

      -- 21: no session is open
      pub now_none : {t : Outcome Place} → p.session.live ≡ false → t ≡ (refused_with NotExpected p []).outcome → Leaves (closing_now q to out) (turned_to q i t) out
      now_none l z = stays_by (now_by ∙ rw l) z

      -- the message goes out, and the session closes
      pub now_sent : {t : Outcome Place} {r : Result ℕ Refusal} {p' : Place} {after : List ℕ} → p.session.live ≡ true
          → Writes Misp true (terminating_of p.session.key s.address to p.session.stamp) out after r → p' ≡ closed_place p
          → t ≡ by_writer r done p p' (Address to) → Leaves (closing_now q to out) (turned_to q i t) after
      now_sent {t} {r} {p'} {after} l x c z =
          let k : closing_now q to out ≡ sending s i p = now_by ∙ rw l in
          let fits = terminating_of_fits p.session.stamp p.session.key s.address to in
          let y = sent_whole done q (with_place i (closed_place p) q) (Address to) x fits large in
          leaves_same k (rw (turned_by done r q i (closed_place p) (Address to) is c z) y)

    module _ (from m : List ℕ) (v : Terminating) (e : i ≡ place_number (find_of q.places from)) where
      -- 8, 21, 17 at a place, or its session closes
      abbrev ending : Settings → ℕ → Place → Step
      ending z n x =
          by_answer (answer_to x.session z from m (terminating_from m v)) (λ why. refused_with why q []) (silent done (with_place n (closed_place x) q) [])

      abbrev EndsTurn : Outcome Place → Type 0
      EndsTurn t = Leaves (closed_at (find_of q.places from) q from m (terminating_from m v)) (turned_to q i t) []

      -- this place decides
      ends_by : closed_at (find_of q.places from) q from m (terminating_from m v) ≡ ending s i p
      ends_by =
          at_place (find_of q.places from) e (λ (x : Option ℕ). closed_at x q from m (terminating_from m v)) (ending s) (λ n. under_key_none v.s false _ _ _)
          λ n. ap (λ (z : Settings). ending z n (place_of n q)) own

      module _ {a : Result ⊤ Refusal} (b : a ≡ answer_to p.session s from m (terminating_from m v)) where
        -- 8, 21, 17
        pub ends_refused : {t : Outcome Place} {why : Refusal} → a ≡ Err why → t ≡ (refused_with why p []).outcome → EndsTurn t
        ends_refused f z = stays_by (ends_by ∙ rw (sym b ∙ f)) z

        -- the session closes
        pub ends_right : {p' : Place} {t : Outcome Place} → a ≡ done → p' ≡ closed_place p → t ≡ (silent done p' []).outcome → EndsTurn t
        ends_right {p'} f c z =
            let h : ending s i p ≡ silent done (with_place i (closed_place p) q) [] = rw (sym b ∙ f) in
            let o = ap (λ (x : Place). (silent done (with_place i x q) []).outcome) c in
            leaves_same (ends_by ∙ h) (leaves_told (ap (turned_to q i) z ∙ o))

-- a message that was read: what is left is 8, 21 and 17
pub told_ends : (q : Router) (from m : List ℕ) {v : Terminating} {o : Outcome Router} → read_terminating m ≡ Ok v
    → Leaves (closed_at (find_of q.places from) q from m (terminating_from m v)) o [] → Leaves (closed_now q from m) o []
unfolding terminating_told
told_ends q from m e x = rw e x

-- the turn of the place that an address has, of a router that stored the clock
by_turn : (r : Router) (clock : ℕ) {address after : List ℕ} {q : Router} {w : Option ℕ} {i : ℕ} {p : Place} {t : Outcome Place} {o : Outcome Router} (step : Router → Step)
    → length r.places ≡ 64 → q ≡ lapsed_at clock r → w ≡ find_of q.places address → i ≡ place_number w → p ≡ place_of i q
    → TurnsFor q.settings address p step t after → o ≡ turned_to q i t → Leaves (step (lapsed_at clock r)) o after
by_turn r clock {q = q} {i = i} step whole s f n is turns e =
    let x = turns.leaves q i refl (ap (λ (z : Router). length z.places) s ∙ lapsed_length clock r ∙ whole) (n ∙ ap place_number f) (sym is) in
    rw e (leaves_same (ap step (sym s)) x)

-- the call that writes one, past 20 and 7: the turn of the place
pub close_turned : (r : Router) (clock : ℕ) (to out : List ℕ) {q : Router} {w : Option ℕ} {i : ℕ} {p : Place} {t : Outcome Place} {o : Outcome Router} {after : List ℕ}
    → limit_of Misp ≤ length out → r.clock ≤ clock → length r.places ≡ 64 → q ≡ lapsed_at clock r → w ≡ find_of q.places to
    → i ≡ place_number w → p ≡ place_of i q → TurnsFor q.settings to p (λ x. closing_now x to out) t after → o ≡ turned_to q i t
    → Leaves (closing r clock to out) o after
unfolding closing
close_turned r clock to out h k whole s f n is turns e =
    let x = by_turn r clock (λ z. closing_now z to out) whole s f n is turns e in
    rw (le-ltb _ _ h, le-ltb _ _ k) (rw (le-ltb _ _ h) at x)

-- one that arrives, past 7: the turn of the place
pub closed_turned : (r : Router) (clock : ℕ) (from m : List ℕ) {q : Router} {w : Option ℕ} {i : ℕ} {p : Place} {t : Outcome Place} {o : Outcome Router} → r.clock ≤ clock
    → length r.places ≡ 64 → q ≡ lapsed_at clock r → w ≡ find_of q.places from → i ≡ place_number w → p ≡ place_of i q
    → TurnsFor q.settings from p (λ x. closed_now x from m) t [] → o ≡ turned_to q i t → o ≡ (closed r clock from m).outcome
unfolding closed
closed_turned r clock from m k whole s f n is turns e =
    (by_turn r clock (λ z. closed_now z from m) whole s f n is turns e).told ∙ rw (le-ltb _ _ k)
