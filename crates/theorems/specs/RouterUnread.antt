-- What a call at the router does not depend on.
-- 1. What stands after the message's Length: `followed_by m more` is m as far as its Length says, and then the bytes `more`, and the call does with it what
--    it does with m. Asked of m (`Whole`): its Length is no less than a header and no more than the bytes given, else the call refuses m with 1 or 2 at the latest.
-- 2. What the lent buffer held: with two buffers of one length the outcome is the same, the bytes written are the same, and past them each buffer is as it was.
use Rattle.std.specs.Prelude.{ℕ, refl, List, length, take, nat_le, nat_lt, slice_index, ◌==◌, Result, Option, Some, None, ⊤}
use Rattle.std.proofs.Math.Path.{◌≡◌}
use Rattle.std.proofs.Common.{lit<}
use Rattle.refusal.specs.declared.Outcome.{Outcome}
use Rattle.refusal.specs.Step.{silent, sends}
use Rattle.octets.specs.Choice.{flip}
use Rattle.octets.specs.Same.{same_bytes}
use Rattle.refusal.specs.declared.Refusal.{Refusal}
use Rattle.refusal.specs.declared.To.{To}
use Rattle.held.specs.Held.{held_bytes}
use Rattle.object.specs.declared.family.Family.TheVariants.{Misp, Misauth}
use Rattle.object.specs.Family.{limit_of}
use Rattle.terms.specs.Terms.{lists, is_one_type}
use Rattle.clock.specs.Clock.{is_ahead, is_stale}
use Rattle.position.specs.Position.{in_range}
use Rattle.message.specs.Reading.{headed}
use Rattle.message.proofs.BeyondLaws.{followed_by, Whole, kept_byte, kept_head, kept_take}
use Rattle.message.proofs.EndsLaws.{ends_at_length}
use Rattle.misp.specs.Failure.{failure_bytes}
use Rattle.misp.specs.Request.{RequestValues, read_request, request_told}
use Rattle.misp.specs.Terminating.{TerminatingValues, read_terminating, terminating_told}
use Rattle.misp.proofs.Beyond.{request_told_beyond, terminating_told_beyond}
use Rattle.misauth.specs.Accept.{AcceptValues, read_accept, accept_told}
use Rattle.misauth.specs.Reject.{RejectValues, read_reject, reject_told}
use Rattle.misauth.proofs.Beyond.{accept_told_beyond, reject_told_beyond}
use Rattle.authenticator.specs.Authenticator.{is_authentic}
use Rattle.checked.specs.Checked.{terminating_of}
use Rattle.checked.proofs.Beyond.{data_beyond, check_beyond}
use Rattle.places.specs.declared.place.Place.{Place}
use Rattle.places.specs.declared.state.Settings.{Settings}
use Rattle.places.specs.declared.state.Router.{Router}
use Rattle.places.specs.State.{lapsed_at, find_of, lowest_free}
use Rattle.turn.specs.Outcome.{Step, place_of, with_place}
use Rattle.turn.specs.Writes.{asked_of, success_for, reject_reason}
use Rattle.router.specs.Beacon.{beacon_of, beaconed}
use Rattle.entering.specs.Request.{asking, failing, attempted, placed, repeats_attempt, repeats_session, known, unknown, by_place, judged, judged_request, requested}
use Rattle.settling.specs.Reply.{opened_by, by_accept, by_reject, awaits, is_reply, answered, judged_reply, replied}
use Rattle.router.specs.Close.{close_at, closing, closed_at, closed_now, closed}
use Rattle.theorems.specs.Alike.{SameFrom, sent_alike, pick_alike, result_alike, begin_alike}

-- AFTER THE LENGTH
module _ {m : List ℕ} (w : Whole Misp m) (more : List ℕ) where
  -- the message enters a request's step by its fields and by its authentication data alone
  asked_beyond : (s : Settings) (i : ℕ) (from : List ℕ) (v : RequestValues) → asked_of s i from (followed_by m more) v ≡ asked_of s i from m v
  unfolding asked_of
  asked_beyond s i from v = rw (data_beyond w more from s.address)

  -- so the step that asks the server is the same with more bytes after the Length
  asking_beyond : (q p : Router) (i : ℕ) (from : List ℕ) (v : RequestValues) (out : List ℕ)
      → asking q p i from (followed_by m more) v out ≡ asking q p i from m v out
  unfolding asking
  asking_beyond q p i from v out = rw (asked_beyond q.settings i from v)

  -- so is what the place of the sender's address decides
  place_beyond : (x : Option ℕ) (q : Router) (from : List ℕ) (v : RequestValues) (out : List ℕ)
      → by_place x q from (followed_by m more) v out ≡ by_place x q from m v out
  unfolding known unknown
  place_beyond (Some i) q from v out = rw (asking_beyond q q i from v out, asking_beyond q (with_place i (attempted v (place_of i q)) q) i from v out)
  place_beyond None q from v out =
      rw (asking_beyond q (with_place (lowest_free q.places) (placed from v) q) (lowest_free q.places) from v out)

  -- and what a request does past 20 and 7
  request_beyond : (q : Router) (now : ℕ) (from out : List ℕ) → judged_request q now from (followed_by m more) out ≡ judged_request q now from m out
  unfolding judged
  request_beyond q now from out =
      rw (request_told_beyond m w.header w.there more)
      (result_alike ◌≡◌ (request_told m (read_request m)) _ _ _ _ (λ why. refl) λ v _. rw (place_beyond (find_of q.places from) q from v out))

  -- what stands after a request's Length decides nothing
  pub requested_beyond : (r : Router) (now : ℕ) (from out : List ℕ) → requested r now from (followed_by m more) out ≡ requested r now from m out
  unfolding requested
  requested_beyond r now from out = rw (request_beyond (lapsed_at now r) now from out)

  -- once read, a terminating message does the same with more bytes after its Length
  closed_at_beyond : (x : Option ℕ) (q : Router) (from : List ℕ) (v : TerminatingValues) → closed_at x q from (followed_by m more) v ≡ closed_at x q from m v
  closed_at_beyond (Some i) q from v = rw (check_beyond w more from q.settings.address (place_of i q).session.key)
  closed_at_beyond None q from v = refl

  -- so it does past 7, whatever it is read as
  closed_now_beyond : (q : Router) (from : List ℕ) → closed_now q from (followed_by m more) ≡ closed_now q from m
  closed_now_beyond q from =
      rw (terminating_told_beyond m w.header w.there more)
      (result_alike ◌≡◌ (terminating_told m (read_terminating m)) _ _ _ _ (λ why. refl) λ v _. rw (closed_at_beyond (find_of q.places from) q from v))

  -- nor after a terminating message's
  pub closed_beyond : (r : Router) (now : ℕ) (from : List ℕ) → closed r now from (followed_by m more) ≡ closed r now from m
  unfolding closed
  closed_beyond r now from = rw (closed_now_beyond (lapsed_at now r) from)

module _ {m : List ℕ} (w : Whole Misauth m) (more : List ℕ) where
  -- a reply past 20 and 7 does the same with more bytes after its Length
  reply_beyond : (q : Router) (now : ℕ) (out : List ℕ) → judged_reply q now (followed_by m more) out ≡ judged_reply q now m out
  unfolding answered
  reply_beyond q now out =
      rw (kept_head w more)
      (result_alike ◌≡◌ (headed Misauth m) _ _ _ _ (λ why. refl) λ end e.
      rw (
        ends_at_length Misauth m end e,
        kept_byte w more 0 (lit< tt),
        kept_byte w more 1 (lit< tt),
        kept_take w more,
        accept_told_beyond m w.header w.there more,
        reject_told_beyond m w.header w.there more,
      ))

  -- nor after a reply's
  pub replied_beyond : (r : Router) (now : ℕ) (out : List ℕ) → replied r now (followed_by m more) out ≡ replied r now m out
  unfolding replied
  replied_beyond r now out = rw (reply_beyond (lapsed_at now r) now out)

-- THE BUFFER BEFORE
-- how many bytes the outcome says were written
abbrev pub written : Outcome Router → ℕ
written o = o.written

module _ (out out' : List ℕ) where
  -- two steps that are alike, one for each buffer
  abbrev A : Step → Step → Type 0
  A = SameFrom written out out'

  -- steps that write nothing are alike
  quiet : (a : Result ⊤ Refusal) (q : Router) → A (silent a q out) (silent a q out')
  quiet a q = record { same = refl; bytes = refl; past = refl; past' = refl }

  -- so are steps that send one message
  sent : (a : Result ⊤ Refusal) (q : Router) (to : To) (message : List ℕ) → A (sends a q to message out) (sends a q to message out')
  sent a q to message = sent_alike written _ message out out' refl

  -- so are the steps that write a terminating message, whether its address has a place or not
  close_at_law : (w : Option ℕ) (q : Router) (to : List ℕ) → A (close_at w q to out) (close_at w q to out')
  close_at_law None q to = quiet _ q
  close_at_law (Some i) q to =
      let s = (place_of i q).session in
      pick_alike A (place_of i q).session.live _ _ _ _ (λ _. sent _ _ _ (terminating_of s.key q.settings.address to s.stamp)) λ _. quiet _ q

  -- so are the steps of an accept, whatever it is read as
  by_accept_law : (t : Result AcceptValues Refusal) (q : Router) (i : ℕ) (p : Place) (now : ℕ) → A (by_accept t q i p now out) (by_accept t q i p now out')
  by_accept_law t q i p now =
      result_alike A t _ _ _ _ (λ why. quiet _ q) λ v _.
      pick_alike A (same_bytes v.check p.attempt.check) _ _ _ _ (λ _. sent _ _ _ (success_for q.settings p.address (opened_by q p now v))) λ _.
      quiet _ q

  -- so are those of a reject
  by_reject_law : (t : Result RejectValues Refusal) (q : Router) (i : ℕ) (p : Place) → A (by_reject t q i p out) (by_reject t q i p out')
  by_reject_law t q i p = result_alike A t _ _ _ _ (λ why. quiet _ q) λ v _. sent _ _ _ (failure_bytes p.attempt.stamp reject_reason)

  -- so are those of a reply past 20 and 7
  by_reply : (q : Router) (now : ℕ) (m : List ℕ) → A (judged_reply q now m out) (judged_reply q now m out')
  unfolding answered
  by_reply q now m =
      result_alike A (headed Misauth m) _ _ _ _ (λ why. quiet _ q) λ end _.
      pick_alike A (flip (is_reply (slice_index m 0))) _ _ _ _ (λ _. quiet _ q) λ _.
      pick_alike A (flip (awaits q (slice_index m 1))) _ _ _ _ (λ _. quiet _ q) λ _.
      pick_alike A (flip (is_authentic (held_bytes q.settings.secret) (take end m))) _ _ _ _ (λ _. quiet _ q) λ _.
      pick_alike A (slice_index m 0 == 2) _ _ _ _
      (λ _. by_accept_law (accept_told m (read_accept m)) q (slice_index m 1) (place_of (slice_index m 1) q) now) λ _.
      by_reject_law (reject_told m (read_reject m)) q (slice_index m 1) (place_of (slice_index m 1) q)

  -- so are those that ask the server
  asks : (q p : Router) (i : ℕ) (from m : List ℕ) (v : RequestValues) → A (asking q p i from m v out) (asking q p i from m v out')
  unfolding asking
  asks q p i from m v = pick_alike A (in_range q.settings.position) _ _ _ _ (λ _. sent _ _ _ (asked_of q.settings i from m v)) λ _. quiet _ q

  -- so are those that send a failure
  fails : (why : Refusal) (reason : ℕ) (q : Router) (from : List ℕ) (v : RequestValues) → A (failing why reason q from v out) (failing why reason q from v out')
  unfolding failing
  fails why reason q from v = sent _ _ _ (failure_bytes v.stamp reason)

  -- so are those of a request for which the place of its sender decides
  by_place_law : (w : Option ℕ) (q : Router) (from m : List ℕ) (v : RequestValues) → A (by_place w q from m v out) (by_place w q from m v out')
  unfolding known unknown
  by_place_law (Some i) q from m v =
      pick_alike A (repeats_attempt v (place_of i q)) _ _ _ _ (λ _. asks q q i from m v) λ _.
      pick_alike A (repeats_session v (place_of i q)) _ _ _ _ (λ _. sent _ _ _ (success_for q.settings from (place_of i q).session)) λ _.
      pick_alike A (nat_le v.stamp (place_of i q).last) _ _ _ _ (λ _. quiet _ q) λ _.
      asks q (with_place i (attempted v (place_of i q)) q) i from m v
  by_place_law None q from m v =
      pick_alike A (nat_lt (lowest_free q.places) 64) _ _ _ _
      (λ _. asks q (with_place (lowest_free q.places) (placed from v) q) (lowest_free q.places) from m v) λ _.
      fails _ _ q from v

  -- so are those of a request past 20 and 7
  by_request : (q : Router) (now : ℕ) (from m : List ℕ) → A (judged_request q now from m out) (judged_request q now from m out')
  unfolding judged
  by_request q now from m =
      result_alike A (request_told m (read_request m)) _ _ _ _ (λ why. quiet _ q) λ v _.
      pick_alike A v.s _ _ _ _ (λ _. quiet _ q) λ _.
      pick_alike A (flip (is_one_type v.security)) _ _ _ _ (λ _. fails _ _ q from v) λ _.
      pick_alike A (flip (lists q.settings.network v.layers)) _ _ _ _ (λ _. fails _ _ q from v) λ _.
      pick_alike A (is_ahead now v.stamp) _ _ _ _ (λ _. quiet _ q) λ _.
      pick_alike A (is_stale now v.stamp q.settings.window) _ _ _ _ (λ _. fails _ _ q from v) λ _.
      by_place_law (find_of q.places from) q from m v

  module _ (same : length out' ≡ length out) (r : Router) (now : ℕ) where
    -- what the buffer held decides nothing where the beacon is written
    pub beaconed_alike : (serial : ℕ) → SameFrom written out out' (beaconed r now serial out) (beaconed r now serial out')
    unfolding beaconed
    beaconed_alike serial =
        begin_alike written same (limit_of Misp) now r.clock (quiet _ r) (quiet _ r) (sent _ _ _ (beacon_of r.settings now serial))

    -- nor at a request
    pub requested_alike : (from m : List ℕ) → SameFrom written out out' (requested r now from m out) (requested r now from m out')
    unfolding requested
    requested_alike from m =
        begin_alike written same (limit_of Misauth) now r.clock (quiet _ r) (quiet _ r) (by_request (lapsed_at now r) now from m)

    -- nor at a reply
    pub replied_alike : (m : List ℕ) → SameFrom written out out' (replied r now m out) (replied r now m out')
    unfolding replied
    replied_alike m =
        begin_alike written same (limit_of Misp) now r.clock (quiet _ r) (quiet _ r) (by_reply (lapsed_at now r) now m)

    -- nor where a terminating message is written
    pub closing_alike : (to : List ℕ) → SameFrom written out out' (closing r now to out) (closing r now to out')
    unfolding closing
    closing_alike to =
        begin_alike written same (limit_of Misp) now r.clock (quiet _ r) (quiet _ r) (close_at_law (find_of (lapsed_at now r).places to) (lapsed_at now r) to)
