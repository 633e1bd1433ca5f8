-- A reply of the server at the router: 20, 7, 1, 2, 3, 15 (Identifier), 16, 4, 5, 6, 15 (object 201) (the paper, 'Steps' and the orders).
use Rattle.refusal.specs.declared.Refusal.{Refusal}
use Rattle.std.specs.Prelude.{ℕ, Bool, true, List, take, nat_lt, slice_index, ◌==◌, Result}
use Rattle.refusal.specs.Step.{done, refused_with, sends}
use Rattle.octets.specs.Choice.{pick, both, either, flip}
use Rattle.octets.specs.Same.{same_bytes}
use Rattle.held.specs.Held.{held_bytes}
use Rattle.object.specs.declared.family.Family.TheVariants.{Misp, Misauth}
use Rattle.refusal.specs.declared.Refusal.TheVariants.{OtherCode, NoAttempt, WrongAuthenticator}
use Rattle.refusal.specs.declared.To.TheVariants.{Address}
use Rattle.message.specs.Reading.{headed, by_result}
use Rattle.misp.specs.Failure.{failure_bytes}
use Rattle.misauth.specs.Accept.{AcceptValues, read_accept, accept_told}
use Rattle.misauth.specs.Reject.{RejectValues, read_reject, reject_told}
use Rattle.authenticator.specs.Authenticator.{is_authentic}
use Rattle.icv.specs.Icv.{masked}
use Rattle.places.specs.declared.place.Session.{Session}
use Rattle.places.specs.declared.place.Place.{Place}
use Rattle.places.specs.declared.state.Router.{Router}
use Rattle.places.specs.Place.{no_attempt, kept_place}
use Rattle.turn.specs.Outcome.{Step, place_of, with_place, in_room}
use Rattle.turn.specs.Writes.{success_for, reject_reason}

-- a place with this session, its attempt ended
abbrev pub settled : Place → Session → Place
settled p s = kept_place p no_attempt s

-- the session that an accept opens: the attempt's stamp and check value, the key with its mask taken off, and since when
unfoldable pub opened_by : Router → Place → ℕ → AcceptValues → Session
opened_by q p now v =
    record {
      live = true;
      stamp = p.attempt.stamp;
      check = p.attempt.check;
      key = masked (held_bytes q.settings.secret) p.attempt.check v.key;
      since = now;
    }

-- 15: object 201 is the attempt's check value
abbrev pub is_for_attempt : AcceptValues → Place → Bool
is_for_attempt v p = same_bytes v.check p.attempt.check

-- 'An accept opens the session and ends the attempt; a success goes out'; 15 where it is not for the attempt
abbrev pub by_accept : Result AcceptValues Refusal → Router → ℕ → Place → ℕ → List ℕ → Step
by_accept t q i p now out =
    by_result t (λ why. refused_with why q out) λ v.
    pick (is_for_attempt v p)
    (sends done (with_place i (settled p (opened_by q p now v)) q) (Address p.address) (success_for q.settings p.address (opened_by q p now v)) out)
    (refused_with NoAttempt q out)

-- 'A reject ends the attempt; a failure goes out'
abbrev pub by_reject : Result RejectValues Refusal → Router → ℕ → Place → List ℕ → Step
by_reject t q i p out =
    by_result t (λ why. refused_with why q out) λ v.
    sends done (with_place i (settled p p.session) q) (Address p.address) (failure_bytes p.attempt.stamp reject_reason) out

-- 15 ('Identifier, then object 201'): the Identifier is that of a place with a waiting attempt (DECISIONS, 35)
unfoldable pub awaits : Router → ℕ → Bool
awaits q i = both (nat_lt i 64) (both (place_of i q).taken (place_of i q).attempt.waiting)

-- 3 ('Code not one this call takes'): it takes an accept's, 2, and a reject's, 3
abbrev pub is_reply : ℕ → Bool
is_reply code = either (code == 2) (code == 3)

-- 3 and what follows, of a message whose header ends it at `end`
unfoldable pub answered : Router → ℕ → List ℕ → ℕ → List ℕ → Step
answered q now m end out =
    let code = slice_index m 0 in
    let i = slice_index m 1 in
    pick (flip (is_reply code)) (refused_with OtherCode q out)
    (pick (flip (awaits q i)) (refused_with NoAttempt q out)
    (pick (flip (is_authentic (held_bytes q.settings.secret) (take end m))) (refused_with WrongAuthenticator q out)
    (pick (code == 2)
    (by_accept (accept_told m (read_accept m)) q i (place_of i q) now out)
    (by_reject (reject_told m (read_reject m)) q i (place_of i q) out))))

-- 1 and 2, then the rest
abbrev pub judged_reply : Router → ℕ → List ℕ → List ℕ → Step
judged_reply q now m out = by_result (headed Misauth m) (λ why. refused_with why q out) λ end. answered q now m end out

-- a reply at the router: 20, 7, then the header and the rest
unfoldable pub replied : Router → ℕ → List ℕ → List ℕ → Step
replied r now m out = in_room Misp r now out λ q. judged_reply q now m out
