-- A reply of the server: what its reader vouches for, and each way of the call.
use Rattle.std.specs.Prelude.{Result, Ok, Err}
use Prim.Native.Nat.{ℕ, ◌≤◌}
use mathlib.Core.Path.{◌≡◌, refl, sym, ap, ◌∙◌}
use mathlib.Core.Bool.{Bool, true, false}
use mathlib.Core.List.{List}
use lib.ListN.{length, get_or, take}
use lib.Dec.{eqb}
use borrow.Author.Tests.{le-ltb}
use Rattle.refusal.specs.declared.Outcome.{Outcome}
use Rattle.refusal.specs.Step.{done, refused_with, by_writer}
use Rattle.octets.proofs.ChoiceLaws.{never}
use Rattle.held.specs.Held.{held_bytes}
use Rattle.refusal.specs.declared.Refusal.{Refusal}
use Rattle.refusal.specs.declared.Refusal.TheVariants.{OtherCode, NoAttempt, WrongAuthenticator}
use Rattle.refusal.specs.declared.To.TheVariants.{Address}
use Rattle.object.specs.declared.family.Family.TheVariants.{Misp, Misauth}
use Rattle.object.specs.Family.{limit_of}
use Rattle.message.specs.Reading.{headed, vetted}
use Rattle.octets.specs.Part.{bytes_at}
use Rattle.message.specs.Writing.{Writes}
use Rattle.message.proofs.ToldLaws.{vetted_all}
use Rattle.message.proofs.VettedLaws.{field_sixteen}
use Rattle.misp.specs.Failure.{failure_bytes}
use Rattle.misp.proofs.RoundTrip.{failure_fits}
use Rattle.misauth.specs.declared.accept.Accept.{Accept}
use Rattle.misauth.specs.declared.reject.Reject.{Reject}
use Rattle.misauth.specs.Accept.{accept_types, accept_at, accept_from, read_accept, accept_told}
use Rattle.misauth.specs.Reject.{read_reject, reject_told}
use Rattle.authenticator.specs.Authenticator.{is_authentic}
use Rattle.places.specs.declared.place.Session.{Session}
use Rattle.places.specs.declared.place.Place.{Place}
use Rattle.places.specs.declared.state.Router.{Router}
use Rattle.places.specs.State.{lapsed_at}
use Rattle.refusal.specs.Step.{Leaves}
use Rattle.turn.specs.Outcome.{place_of, with_place}
use Rattle.turn.specs.OnePlace.{turned_to, Turns}
use Rattle.turn.specs.Writes.{success_for, reject_reason}
use Rattle.refusal.proofs.StepLaws.{leaves_told}
use Rattle.turn.proofs.StepLaws.{sent_whole}
use Rattle.turn.proofs.TurnLaws.{turned_by}
use Rattle.turn.proofs.WritesLaws.{success_for_fits}
use Rattle.settling.specs.Reply.{settled, opened_by, is_for_attempt, by_accept, by_reject, awaits, is_reply, answered, judged_reply, replied}
use Rattle.settling.specs.Parts.{replied_now}

-- a message that goes out and ends the attempt
pub settled_by : (w : Result ℕ Refusal) (q : Router) (i : ℕ) {p p' : Place} (session : Session) {t : Outcome Place} → place_of i q ≡ p → p' ≡ settled p session
    → t ≡ by_writer w done p p' (Address p.address) → turned_to q i t ≡ by_writer w done q (with_place i (settled p session) q) (Address p.address)
settled_by w q i {p} session = turned_by done w q i (settled p session) (Address p.address)

-- an accept that was read
module _ (q : Router) (i clock : ℕ) (m : List ℕ) (v : Accept) (out : List ℕ) (p : Place) where
  abbrev Opened : Outcome Router → List ℕ → Type 0
  Opened o after = Leaves (by_accept (Ok (accept_from m v)) q i p clock out) o after

  -- 15 by object 201
  pub open_other : {o : Outcome Router} → is_for_attempt (accept_from m v) p ≡ false → o ≡ (refused_with NoAttempt q out).outcome → Opened o out
  open_other t e = rw t (leaves_told e)

  -- the session opens, and a success goes out
  pub open_sent : {session : Session} {w : Result ℕ Refusal} {o : Outcome Router} {after : List ℕ} → limit_of Misp ≤ length out
      → is_for_attempt (accept_from m v) p ≡ true → session ≡ opened_by q p clock (accept_from m v)
      → Writes Misp true (success_for q.settings p.address session) out after w
      → o ≡ by_writer w done q (with_place i (settled p session) q) (Address p.address) → Opened o after
  open_sent {session} large t a x e =
      let fits = success_for_fits q.settings p.address session in
      let y = sent_whole done q (with_place i (settled p session) q) (Address p.address) x fits large in
      rw t (rw (← e, a) at y)

-- an accept
module _ (q : Router) (i clock : ℕ) (m out : List ℕ) (p : Place) where
  abbrev Accepted : Outcome Router → List ℕ → Type 0
  Accepted o after = Leaves (by_accept (accept_told m (read_accept m)) q i p clock out) o after

  -- the reader's refusal is passed on
  pub accept_refused : {why : Refusal} {o : Outcome Router} → read_accept m ≡ Err why → o ≡ (refused_with why q out).outcome → Accepted o out
  unfolding accept_told
  accept_refused r e = rw r (leaves_told e)

  -- one that is read
  pub accept_read : {v : Accept} {o : Outcome Router} {after : List ℕ} → read_accept m ≡ Ok v → Leaves (by_accept (Ok (accept_from m v)) q i p clock out) o after
      → Accepted o after
  unfolding accept_told
  accept_read r x = rw r x

-- the key of an accept that was read
pub accept_key : (m : List ℕ) (v : Accept) → read_accept m ≡ Ok v → length (bytes_at m v.key) ≡ 16
unfolding read_accept accept_at
accept_key m v =
    vetted_all (λ (x : Result Accept Refusal). x ≡ Ok v → length (bytes_at m v.key) ≡ 16) (vetted Misauth 2 accept_types m) Err
    (λ end. Ok (accept_at end m))
    (λ why e r. never cc)
    (λ end e r. let same : accept_at end m ≡ v = cc in rw (← same) (field_sixteen Misauth 2 accept_types m 203 end e refl refl))

-- a reader that does not refuse has read
pub not_refused : (r : Result Reject Refusal) → ((why : Refusal) → r ≡ Err why → ⊥) → (given : Reject) × (r ≡ Ok given)
not_refused (Ok given) n = (given, refl)
not_refused (Err why) n = absurd (n why refl)

-- a reject
module _ (q : Router) (i : ℕ) (m out : List ℕ) (p : Place) where
  abbrev Rejected : Outcome Router → List ℕ → Type 0
  Rejected o after = Leaves (by_reject (reject_told m (read_reject m)) q i p out) o after

  -- the reader's refusal is passed on
  pub reject_refused : {why : Refusal} {o : Outcome Router} → read_reject m ≡ Err why → o ≡ (refused_with why q out).outcome → Rejected o out
  unfolding reject_told
  reject_refused r e = rw r (leaves_told e)

  -- the attempt ends, and a failure goes out
  pub reject_sent : {given : Reject} {w : Result ℕ Refusal} {o : Outcome Router} {after : List ℕ} → read_reject m ≡ Ok given → limit_of Misp ≤ length out
      → Writes Misp true (failure_bytes p.attempt.stamp reject_reason) out after w
      → o ≡ by_writer w done q (with_place i (settled p p.session) q) (Address p.address) → Rejected o after
  unfolding reject_told
  reject_sent r large x e =
      rw (r, e)
      (sent_whole done q (with_place i (settled p p.session) q) (Address p.address) x (failure_fits p.attempt.stamp reject_reason) large)

-- 3, 15 by the Identifier, 16, then the accept or the reject
module _ (q : Router) (clock : ℕ) (m : List ℕ) (end : ℕ) (out : List ℕ) where
  abbrev Answered : Outcome Router → List ℕ → Type 0
  Answered o after = Leaves (answered q clock m end out) o after

  -- 3
  pub answer_code : {o : Outcome Router} → is_reply (get_or m 0 0) ≡ false → o ≡ (refused_with OtherCode q out).outcome → Answered o out
  unfolding answered
  answer_code t e = rw t (leaves_told e)

  module _ (t : is_reply (get_or m 0 0) ≡ true) where
    -- 15 by the Identifier
    pub answer_none : {o : Outcome Router} → awaits q (get_or m 1 0) ≡ false → o ≡ (refused_with NoAttempt q out).outcome → Answered o out
    unfolding answered
    answer_none u e = rw (t, u) (leaves_told e)

    module _ (u : awaits q (get_or m 1 0) ≡ true) where
      abbrev authentic : Bool
      authentic = is_authentic (held_bytes q.settings.secret) (take end m)

      -- 16
      pub answer_wrong : {o : Outcome Router} → authentic ≡ false → o ≡ (refused_with WrongAuthenticator q out).outcome → Answered o out
      unfolding answered
      answer_wrong a e = rw (t, u, a) (leaves_told e)

      module _ (a : authentic ≡ true) {p : Place} (d : place_of (get_or m 1 0) q ≡ p) where
        -- an accept
        pub answer_accept : {o : Outcome Router} {after : List ℕ} → eqb (get_or m 0 0) 2 ≡ true
            → Leaves (by_accept (accept_told m (read_accept m)) q (get_or m 1 0) p clock out) o after → Answered o after
        unfolding answered
        answer_accept k x = rw (t, u, a, k, d) x

        -- a reject
        pub answer_reject : {o : Outcome Router} {after : List ℕ} → eqb (get_or m 0 0) 2 ≡ false
            → Leaves (by_reject (reject_told m (read_reject m)) q (get_or m 1 0) p out) o after → Answered o after
        unfolding answered
        answer_reject k x = rw (t, u, a, k, d) x

-- past 20: the header and the rest
module _ (q : Router) (clock : ℕ) (m out : List ℕ) (h : limit_of Misp ≤ length out) where
  -- 20 is passed
  now_large : replied_now q clock m out ≡ judged_reply q clock m out
  unfolding replied_now
  now_large = rw (le-ltb _ _ h)

  -- 1 and 2
  pub now_refused : {why : Refusal} {o : Outcome Router} → headed Misauth m ≡ Err why → o ≡ (refused_with why q out).outcome → Leaves (replied_now q clock m out) o out
  now_refused f e = rw (now_large, f) (leaves_told e)

  -- past the header
  pub now_answered : {end : ℕ} {o : Outcome Router} {after : List ℕ} → headed Misauth m ≡ Ok end → Leaves (answered q clock m end out) o after
      → Leaves (replied_now q clock m out) o after
  now_answered f x = rw (now_large, f) x

-- the call, past 20 and 7: the turn of the place, at the router as lapsing leaves it
pub reply_turned : (r : Router) (clock : ℕ) (m out : List ℕ) {q : Router} {i : ℕ} {p : Place} {t : Outcome Place} {o : Outcome Router} {after : List ℕ}
    → limit_of Misp ≤ length out → r.clock ≤ clock → q ≡ lapsed_at clock r → i ≡ get_or m 1 0 → p ≡ place_of i q
    → Turns q.settings (get_or m 1 0) p (λ z. replied_now z clock m out) t after → o ≡ turned_to q i t → Leaves (replied r clock m out) o after
unfolding replied
reply_turned r clock m out {q} {i} {p} {t} {o} {after} h k s d is x e =
    let y = x.leaves q refl (ap (λ (n : ℕ). place_of n q) (sym d) ∙ sym is) in
    let z : Leaves (replied_now q clock m out) o after = rw (e, d) y in
    rw (le-ltb _ _ h, le-ltb _ _ k) (rw (now_large q clock m out h, s) at z)
