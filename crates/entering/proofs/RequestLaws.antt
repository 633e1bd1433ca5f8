-- A node's request: what its reader vouches for, and each way of the call.
use Rattle.std.specs.Prelude.{Result, Option, Ok, Err, Some, None, nat_lt}
use Prim.Native.Nat.{ℕ, ◌<◌, ◌≤◌}
use mathlib.Core.Path.{◌≡◌, refl, ap, ◌∙◌}
use mathlib.Core.Bool.{Bool, true, false}
use mathlib.Core.List.{List}
use native.Mathlib.Omega.{arith}
use lib.ListN.{length}
use borrow.Author.Tests.{lt-ltb, le-ltb, le-leb, lt-leb, ltb-true, ltb-false}
use Rattle.refusal.specs.declared.Outcome.{Outcome}
use Rattle.refusal.specs.Step.{done, refused_with, by_writer}
use Rattle.octets.specs.Choice.{pick}
use Rattle.octets.specs.Numbers.{Bytes}
use Rattle.octets.proofs.ChoiceLaws.{never, pick_no}
use Rattle.refusal.specs.declared.Refusal.{Refusal}
use Rattle.refusal.specs.declared.Refusal.TheVariants.{OtherKey, SecurityType, NetworkNumber, StampAhead, StampOld, StampUsed, NoPlace}
use Rattle.refusal.specs.declared.To.TheVariants.{Address}
use Rattle.terms.specs.Terms.{lists, is_one_type}
use Rattle.clock.specs.Clock.{is_ahead, is_stale}
use Rattle.object.specs.declared.family.Family.TheVariants.{Misp, Misauth}
use Rattle.object.specs.Family.{limit_of}
use Rattle.message.specs.Reading.{vetted}
use Rattle.message.specs.Writing.{Writes}
use Rattle.message.proofs.ToldLaws.{vetted_all}
use Rattle.message.proofs.VettedLaws.{field_sixteen, field_name}
use Rattle.misp.specs.declared.request.Request.{Request}
use Rattle.misp.specs.Request.{RequestValues, request_types, request_from, request_at, read_request, request_told}
use Rattle.misp.specs.Failure.{failure_bytes}
use Rattle.misp.proofs.RoundTrip.{failure_fits}
use Rattle.places.specs.declared.place.Session.{Session}
use Rattle.places.specs.declared.place.Place.{Place}
use Rattle.places.specs.declared.state.Settings.{Settings}
use Rattle.places.specs.declared.state.Router.{Router}
use Rattle.places.specs.Place.{no_session}
use Rattle.places.specs.State.{lapsed_at, find_of, lowest_free}
use Rattle.places.proofs.FindLaws.{find_at}
use Rattle.refusal.specs.Step.{Leaves}
use Rattle.turn.specs.Outcome.{Step, place_of, with_place}
use Rattle.turn.specs.Writes.{success_for, type_reason, network_reason, old_reason, full_reason}
use Rattle.refusal.proofs.StepLaws.{leaves_told}
use Rattle.turn.proofs.StepLaws.{sent_whole}
use Rattle.turn.proofs.WritesLaws.{success_for_fits}
use Rattle.entering.specs.declared.Seat.{Seat}
use Rattle.entering.specs.declared.Seat.TheVariants.{Known, Free, Full}
use Rattle.entering.specs.Request.{failing, asking, repeats_attempt, repeats_session, attempted, placed, known, unknown, by_place, judged, requested, place_with}
use Rattle.entering.specs.Seated.{seat_of, requested_now, Sits}
use Rattle.entering.specs.Parts.{Vouched}

-- what the reader of requests vouches for
pub vouched : (m : List ℕ) (v : Request) → Bytes m → read_request m ≡ Ok v → Vouched m v
unfolding read_request request_at
vouched m v b =
    vetted_all (λ (x : Result Request Refusal). x ≡ Ok v → Vouched m v) (vetted Misp 3 request_types m) Err (λ end. Ok (request_at end m))
    (λ why e r. never cc)
    (λ end e r.
    let same : request_at end m ≡ v = cc in
    rw (← same)
    (record {
      check = field_sixteen Misp 3 request_types m 5 end e refl refl;
      seed = field_sixteen Misp 3 request_types m 8 end e refl refl;
      name = field_name Misp 3 request_types m 6 end b e refl refl refl;
    }))

-- a place that was found is one of the 64
found_below : (q : Router) (address : List ℕ) (i : ℕ) → length q.places ≡ 64 → find_of q.places address ≡ Some i → i < 64
found_below q address i e f = omega (arith, (find_at address q.places i f).within)

-- a failure goes out
pub fail_left : (why : Refusal) (reason : ℕ) (q : Router) (from : List ℕ) (v : RequestValues) (out : List ℕ) {w : Result ℕ Refusal} {o : Outcome Router} {after : List ℕ}
    → limit_of Misauth ≤ length out → Writes Misp true (failure_bytes v.stamp reason) out after w
    → o ≡ by_writer w (Err why) q q (Address from) → Leaves (failing why reason q from v out) o after
unfolding failing
fail_left why reason q from v out large x e = rw e (sent_whole (Err why) q q (Address from) x (failure_fits v.stamp reason) (omega arith))

-- a place for the node
module _ (q : Router) (i : ℕ) (from m : List ℕ) (v : RequestValues) (out : List ℕ) {p : Place} (is : place_of i q ≡ p) where
  abbrev Knows : Outcome Router → List ℕ → Type 0
  Knows o after = Leaves (known q i from m v out) o after

  -- its waiting attempt again: the access request once more
  pub known_waits : {o : Outcome Router} {after : List ℕ} → repeats_attempt v p ≡ true → Leaves (asking q q i from m v out) o after → Knows o after
  unfolding known
  known_waits t x = rw (is, t) x

  module _ (t : repeats_attempt v p ≡ false) where
    -- its open session again: the same success
    pub known_open : {w : Result ℕ Refusal} {o : Outcome Router} {after : List ℕ} → limit_of Misauth ≤ length out → repeats_session v p ≡ true
        → Writes Misp true (success_for q.settings from p.session) out after w → o ≡ by_writer w done q q (Address from) → Knows o after
    unfolding known
    known_open large u x e =
        rw (is, t, u, e) (sent_whole done q q (Address from) x (success_for_fits q.settings from p.session) (omega arith))

    module _ (u : repeats_session v p ≡ false) where
      -- 13
      pub known_used : {o : Outcome Router} → v.stamp ≤ p.last → o ≡ (refused_with StampUsed q out).outcome → Knows o out
      unfolding known
      known_used h e = rw (is, t, u, le-leb v.stamp p.last h) (leaves_told e)

      -- accepted: it becomes the place's attempt
      pub known_new : {p' : Place} {o : Outcome Router} {after : List ℕ} → p.last < v.stamp → p' ≡ place_with p.address v p.session
          → Leaves (asking q (with_place i p' q) i from m v out) o after → Knows o after
      unfolding known attempted
      known_new h s x = rw (is, t, u, lt-leb v.stamp p.last h) (rw s at x)

-- no place yet
module _ (q : Router) (from m : List ℕ) (v : RequestValues) (out : List ℕ) {i : ℕ} (d : lowest_free q.places ≡ i) where
  -- 14
  unknown_full : {o : Outcome Router} {after : List ℕ} → 64 ≤ i → Leaves (failing NoPlace full_reason q from v out) o after → Leaves (unknown q from m v out) o after
  unfolding unknown
  unknown_full h x = rw (d, le-ltb i 64 h) x

  -- the lowest free place is taken
  unknown_free : {p' : Place} {session : Session} {o : Outcome Router} {after : List ℕ} → i < 64 → session ≡ no_session → p' ≡ place_with from v session
      → Leaves (asking q (with_place i p' q) i from m v out) o after → Leaves (unknown q from m v out) o after
  unfolding unknown placed
  unknown_free h n s x = rw (d, lt-ltb i 64 h) (rw (s, n) at x)

-- a seat that is neither its sender's place nor a free one
pub only_full : (seat : Seat) {A : Type 0} → ((i : ℕ) → seat ≡ Known i → ⊥) → ((i : ℕ) → seat ≡ Free i → ⊥) → ((i : ℕ) → seat ≡ Full i → A) → A
only_full (Known i) k f g = absurd (k i refl)
only_full (Free i) k f g = absurd (f i refl)
only_full (Full i) k f g = g i refl

-- at its seat
module _ (q : Router) (from : List ℕ) {settings : Settings} {seat : Seat} {p : Place} (h : Sits settings seat p from q) where
  abbrev free : ℕ
  free = lowest_free q.places

  -- a new sender's seat
  module _ (P : Type 0) where
    new_known : (b : Bool) {i : ℕ} → pick b (Free free) (Full free) ≡ Known i → P
    new_known true e = never cc
    new_known false e = never cc

    new_free : (b : Bool) {i : ℕ} → nat_lt free 64 ≡ b → pick b (Free free) (Full free) ≡ Free i → (free < 64 → free ≡ i → P) → P
    new_free true e f k = k (ltb-true free 64 e) cc
    new_free false e f k = never cc

    new_full : (b : Bool) {i : ℕ} → nat_lt free 64 ≡ b → pick b (Free free) (Full free) ≡ Full i → (64 ≤ free → P) → P
    new_full true e f k = never cc
    new_full false e f k = k (ltb-false free 64 e)

  -- the sender's place is one of the 64
  pub known_within : {i : ℕ} {A : Type 0} → seat ≡ Known i → 64 ≤ i → A
  known_within {i} {A} k l = go (find_of q.places from) refl (h.found ∙ k)
    where
      go : (w : Option ℕ) → find_of q.places from ≡ w → seat_of w free ≡ Known i → A
      go (Some n) e f = let same : n ≡ i = cc in absurd (omega (arith, found_below q from n h.whole e))
      go None e f = new_known _ (nat_lt free 64) f

  -- a free one is one of the 64
  pub free_within : {i : ℕ} {A : Type 0} → seat ≡ Free i → 64 ≤ i → A
  free_within {i} {A} k l = go (find_of q.places from) (h.found ∙ k)
    where
      go : (w : Option ℕ) → seat_of w free ≡ Free i → A
      go (Some j) f = never cc
      go None f = new_free _ (nat_lt free 64) refl f (λ s e. absurd (omega arith))

  module _ (m : List ℕ) (v : RequestValues) (out : List ℕ) where
    -- the step by the place that the sender has, and its seat
    abbrev Does : Outcome Router → List ℕ → Type 0
    Does o after = Leaves (by_place (find_of q.places from) q from m v out) o after

    -- the sender has a place
    pub seat_known : {i : ℕ} {o : Outcome Router} {after : List ℕ} → seat ≡ Known i → Leaves (known q i from m v out) o after → Does o after
    seat_known {i} {o} {after} k x = go (find_of q.places from) (h.found ∙ k)
      where
        go : (w : Option ℕ) → seat_of w free ≡ Known i → Leaves (by_place w q from m v out) o after
        go (Some n) f = let same : n ≡ i = cc in rw same x
        go None f = new_known _ (nat_lt free 64) f

    -- it has none, and one is free
    pub seat_free : {i : ℕ} {p' : Place} {session : Session} {o : Outcome Router} {after : List ℕ} → seat ≡ Free i → session ≡ no_session
        → p' ≡ place_with from v session → Leaves (asking q (with_place i p' q) i from m v out) o after → Does o after
    seat_free {i} {p'} {session} {o} {after} k n s x = go (find_of q.places from) (h.found ∙ k)
      where
        go : (w : Option ℕ) → seat_of w free ≡ Free i → Leaves (by_place w q from m v out) o after
        go (Some j) f = never cc
        go None f = new_free _ (nat_lt free 64) refl f (λ l e. unknown_free q from m v out e (rw e at l) n s x)

    -- it has none, and none is free: 14
    pub seat_full : {i : ℕ} {o : Outcome Router} {after : List ℕ} → seat ≡ Full i → Leaves (failing NoPlace full_reason q from v out) o after → Does o after
    seat_full {i} {o} {after} k x = go (find_of q.places from) (h.found ∙ k)
      where
        go : (w : Option ℕ) → seat_of w free ≡ Full i → Leaves (by_place w q from m v out) o after
        go (Some j) f = never cc
        go None f = new_full _ (nat_lt free 64) refl f (λ l. unknown_full q from m v out refl l x)

-- 8 to 14
module _ (q : Router) (clock : ℕ) (from m : List ℕ) (v : RequestValues) (out : List ℕ) {s : Settings} (same : q.settings ≡ s) where
  abbrev Judged : Outcome Router → List ℕ → Type 0
  Judged o after = Leaves (judged q clock from m v out) o after

  -- the tests by the router's settings are those by s
  network : lists q.settings.network v.layers ≡ lists s.network v.layers
  network = ap (λ (z : Settings). lists z.network v.layers) same

  stale : is_stale clock v.stamp q.settings.window ≡ is_stale clock v.stamp s.window
  stale = ap (λ (z : Settings). is_stale clock v.stamp z.window) same

  -- 8
  pub judge_key : {o : Outcome Router} → v.s ≡ true → o ≡ (refused_with OtherKey q out).outcome → Judged o out
  unfolding judged
  judge_key t e = rw t (leaves_told e)

  module _ (t : v.s ≡ false) where
    -- past 8: what the rest leaves is what is left
    past_key : {rest : Step} {o : Outcome Router} {after : List ℕ} → Leaves rest o after → Leaves (pick v.s (refused_with OtherKey q out) rest) o after
    past_key {o = o} {after = after} = pick_no (λ (z : Step). Leaves z o after) (refused_with OtherKey q out) t

    -- 9
    pub judge_type : {o : Outcome Router} {after : List ℕ} → is_one_type v.security ≡ false → Leaves (failing SecurityType type_reason q from v out) o after → Judged o after
    unfolding judged
    judge_type u x = past_key (rw u x)

    module _ (u : is_one_type v.security ≡ true) where
      -- 10
      pub judge_network : {o : Outcome Router} {after : List ℕ} → lists s.network v.layers ≡ false
          → Leaves (failing NetworkNumber network_reason q from v out) o after → Judged o after
      unfolding judged
      judge_network n x = past_key (rw (u, network ∙ n) x)

      module _ (n : lists s.network v.layers ≡ true) where
        -- 11
        pub judge_ahead : {o : Outcome Router} → is_ahead clock v.stamp ≡ true → o ≡ (refused_with StampAhead q out).outcome → Judged o out
        unfolding judged
        judge_ahead a e = past_key (rw (u, network ∙ n, a) (leaves_told e))

        module _ (a : is_ahead clock v.stamp ≡ false) where
          -- 12
          pub judge_old : {o : Outcome Router} {after : List ℕ} → is_stale clock v.stamp s.window ≡ true
              → Leaves (failing StampOld old_reason q from v out) o after → Judged o after
          unfolding judged
          judge_old l x = past_key (rw (u, network ∙ n, a, stale ∙ l) x)

          -- past 12 its seat decides
          pub judge_seat : {o : Outcome Router} {after : List ℕ} → is_stale clock v.stamp s.window ≡ false
              → Leaves (by_place (find_of q.places from) q from m v out) o after → Judged o after
          unfolding judged
          judge_seat l x = past_key (rw (u, network ∙ n, a, stale ∙ l) x)

-- past 20: 1 to 6 and the rest
module _ (q : Router) (clock : ℕ) (from m out : List ℕ) (h : limit_of Misauth ≤ length out) where
  -- 1 to 6
  pub now_refused : {why : Refusal} {o : Outcome Router} → read_request m ≡ Err why → o ≡ (refused_with why q out).outcome
      → Leaves (requested_now q clock from m out) o out
  unfolding requested_now request_told
  now_refused f e = rw (le-ltb _ _ h, f) (leaves_told e)

  -- past them 8 to 14
  pub now_judged : {v : Request} {o : Outcome Router} {after : List ℕ} → read_request m ≡ Ok v → Leaves (judged q clock from m (request_from m v) out) o after
      → Leaves (requested_now q clock from m out) o after
  unfolding requested_now request_told
  now_judged f x = rw (le-ltb _ _ h, f) x

-- the call, past 20 and 7: the same at the router as lapsing leaves it
pub request_now : (r : Router) (clock : ℕ) (from m out : List ℕ) {q : Router} {o : Outcome Router} {after : List ℕ} → limit_of Misauth ≤ length out
    → r.clock ≤ clock → q ≡ lapsed_at clock r → Leaves (requested_now q clock from m out) o after → Leaves (requested r clock from m out) o after
unfolding requested requested_now
request_now r clock from m out h k s x = rw (le-ltb _ _ h, le-ltb _ _ k) (rw (s, le-ltb _ _ h) at x)
