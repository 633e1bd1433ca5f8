-- Terminating messages at the router: written (20, 7, 21) and arriving (7, 1 to 6, 8, 21, 17) (the paper, 'Steps' and the orders).
use Rattle.message.specs.Reading.{by_result}
use Rattle.std.specs.Prelude.{ℕ, Bool, List, [], ◌==◌, Result, Option, Some, None, ⊤}
use Rattle.refusal.specs.Step.{done, refused_with, silent, sends}
use Rattle.refusal.specs.declared.Refusal.{Refusal}
use Rattle.octets.specs.Choice.{pick, both}
use Rattle.octets.specs.Same.{same_bytes}
use Rattle.object.specs.declared.family.Family.TheVariants.{Misp}
use Rattle.refusal.specs.declared.Refusal.TheVariants.{NotExpected}
use Rattle.refusal.specs.declared.To.TheVariants.{Address}
use Rattle.refusal.specs.Step.{by_answer}
use Rattle.misp.specs.Terminating.{TerminatingValues, read_terminating, terminating_told}
use Rattle.checked.specs.Checked.{check_for, under_key, terminating_of}
use Rattle.places.specs.declared.place.Place.{Place}
use Rattle.places.specs.declared.place.Session.{Session}
use Rattle.places.specs.declared.state.Router.{Router}
use Rattle.places.specs.declared.state.Settings.{Settings}
use Rattle.places.specs.Place.{no_session, kept_place}
use Rattle.places.specs.State.{find_of}
use Rattle.turn.specs.Outcome.{Step, place_of, with_place, clocked, in_room}

-- the session closes; address, last stamp and a waiting attempt stay (DECISIONS, 8)
unfoldable pub closed_place : Place → Place
closed_place p = kept_place p p.attempt no_session

-- 'either end writing one .. closes'; 21 where there is no session
abbrev pub close_at : Option ℕ → Router → List ℕ → List ℕ → Step
close_at None q to out = refused_with NotExpected q out
close_at (Some i) q to out =
    pick (place_of i q).session.live
    (sends done (with_place i (closed_place (place_of i q)) q) (Address to)
    (terminating_of (place_of i q).session.key q.settings.address to (place_of i q).session.stamp) out)
    (refused_with NotExpected q out)

-- the router writes a terminating message: 20, 7, 21
unfoldable pub closing : Router → ℕ → List ℕ → List ℕ → Step
closing r now to out = in_room Misp r now out λ q. close_at (find_of q.places to) q to out

-- 'another stamp, like no session, is 21': the session is open, and this is its stamp
abbrev pub in_session : Session → ℕ → Bool
in_session s stamp = both s.live (stamp == s.stamp)

-- 8, 21, 17 (DECISIONS, 35)
abbrev pub answer_to : Session → Settings → List ℕ → List ℕ → TerminatingValues → Result ⊤ Refusal
answer_to s own from m v = under_key v.s (in_session s v.stamp) (same_bytes v.check (check_for s.key from own.address m))

-- 'a right one arriving, closes'; a sender without a place has no session, so 8 or 21
abbrev pub closed_at : Option ℕ → Router → List ℕ → List ℕ → TerminatingValues → Step
closed_at None q from m v = by_answer (answer_to no_session q.settings from m v) (λ why. refused_with why q []) (silent done q [])
closed_at (Some i) q from m v =
    by_answer (answer_to (place_of i q).session q.settings from m v) (λ why. refused_with why q [])
    (silent done (with_place i (closed_place (place_of i q)) q) [])

-- 1 to 6, then by the place of the sender's address
abbrev pub closed_now : Router → List ℕ → List ℕ → Step
closed_now q from m = by_result (terminating_told m (read_terminating m)) (λ why. refused_with why q []) (closed_at (find_of q.places from) q from m)

-- one arrives: 7 first
unfoldable pub closed : Router → ℕ → List ℕ → List ℕ → Step
closed r now from m = clocked r now [] λ q. closed_now q from m
