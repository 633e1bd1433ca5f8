-- What a call at a node does not depend on.
-- 1. What stands after the message's Length: `followed_by m more` is m as far as its Length says, and then the bytes `more`, and the call does with it what
--    it does with m. Asked of m (`Whole`): its Length is no less than a header and no more than the bytes given, else the call refuses m with 1 or 2 at the latest.
-- 2. What the lent buffer held: with two buffers of one length the outcome is the same, the bytes written are the same, and past them each buffer is as it was.
use Rattle.std.specs.Prelude.{ℕ, refl, List, length, nat_lt}
use Rattle.std.proofs.Math.Path.{◌≡◌}
use Rattle.refusal.specs.declared.Outcome.{Outcome}
use Rattle.refusal.specs.Step.{refused_with}
use Rattle.octets.specs.Choice.{flip}
use Rattle.refusal.specs.declared.Refusal.{Refusal}
use Rattle.held.specs.Held.{held_bytes}
use Rattle.object.specs.declared.family.Family.TheVariants.{Misp}
use Rattle.object.specs.Family.{limit_of}
use Rattle.terms.specs.Terms.{lists}
use Rattle.message.specs.Writing.{is_name}
use Rattle.message.proofs.BeyondLaws.{followed_by, Whole}
use Rattle.beacons.specs.Beacon.{BeaconValues, read_beacon, beacon_told}
use Rattle.beacons.proofs.Beyond.{beacon_told_beyond}
use Rattle.misp.specs.Success.{read_success, success_told}
use Rattle.misp.specs.Terminating.{read_terminating, terminating_told}
use Rattle.misp.proofs.Beyond.{success_told_beyond, failure_beyond, terminating_told_beyond}
use Rattle.checked.specs.Checked.{terminating_of}
use Rattle.checked.proofs.Beyond.{check_beyond}
use Rattle.node.specs.declared.Node.{Node}
use Rattle.node.specs.State.{Step, sends, lapsed_at}
use Rattle.hearing.specs.Hear.{engaged, is_above, request_for, waits_for, answering, heard}
use Rattle.node.specs.Answers.{succeeded, failed}
use Rattle.leaving.specs.Leave.{leaving_now, leaving, left}
use Rattle.theorems.specs.Alike.{SameFrom, sent_alike, pick_alike, result_alike, begin_alike}

-- AFTER THE LENGTH
module _ {m : List ℕ} (w : Whole Misp m) (more : List ℕ) where
  -- what stands after a beacon's Length decides nothing
  pub heard_beyond : (n : Node) (now : ℕ) (seed out : List ℕ) → heard n now seed (followed_by m more) out ≡ heard n now seed m out
  unfolding heard
  heard_beyond n now seed out = rw (beacon_told_beyond m w.header w.there more)

  -- nor after a success's
  pub succeeded_beyond : (n : Node) (now : ℕ) → succeeded n now (followed_by m more) ≡ succeeded n now m
  unfolding succeeded
  succeeded_beyond n now =
      let q = lapsed_at now n in
      pick_alike ◌≡◌ (nat_lt now n.clock) _ _ _ _ (λ _. refl) λ _.
      rw (success_told_beyond m w.header w.there more)
      (result_alike ◌≡◌ (success_told m (read_success m)) _ _ _ _ (λ why. refl) λ v _.
      rw (check_beyond w more q.settings.router q.settings.address q.waiting.key))

  -- nor after a failure's
  pub failed_beyond : (n : Node) (now : ℕ) → failed n now (followed_by m more) ≡ failed n now m
  unfolding failed
  failed_beyond n now = rw (failure_beyond m w.header w.there more)

  -- nor after a terminating message's
  pub left_beyond : (n : Node) (now : ℕ) → left n now (followed_by m more) ≡ left n now m
  unfolding left
  left_beyond n now =
      let q = lapsed_at now n in
      pick_alike ◌≡◌ (nat_lt now n.clock) _ _ _ _ (λ _. refl) λ _.
      rw (terminating_told_beyond m w.header w.there more)
      (result_alike ◌≡◌ (terminating_told m (read_terminating m)) _ _ _ _ (λ why. refl) λ v _.
      rw (check_beyond w more q.settings.router q.settings.address q.session.key))

-- THE BUFFER BEFORE
-- how many bytes the outcome says were written
abbrev pub written : Outcome Node → ℕ
written o = o.written

module _ (out out' : List ℕ) where
  -- two steps that are alike, one for each buffer
  abbrev A : Step → Step → Type 0
  A = SameFrom written out out'

  -- steps that refuse are alike: they write nothing
  quiet : (why : Refusal) (n : Node) → A (refused_with why n out) (refused_with why n out')
  quiet why n = record { same = refl; bytes = refl; past = refl; past' = refl }

  -- so are steps that send one message
  sent : (n : Node) (message : List ℕ) → A (sends n message out) (sends n message out')
  sent n message = sent_alike written _ message out out' refl

  -- so are the steps of a beacon that was read
  by_beacon : (n : Node) (seed : List ℕ) (v : BeaconValues) → A (answering n seed v out) (answering n seed v out')
  unfolding answering
  by_beacon n seed v =
      pick_alike A (engaged n v.stamp) _ _ _ _ (λ _. quiet _ n) λ _.
      pick_alike A (flip (is_above v.stamp n.used)) _ _ _ _ (λ _. quiet _ n) λ _.
      pick_alike A (flip (lists n.settings.kind v.security)) _ _ _ _ (λ _. quiet _ n) λ _.
      pick_alike A (flip (lists n.settings.network v.layers)) _ _ _ _ (λ _. quiet _ n) λ _.
      pick_alike A (is_name (held_bytes n.settings.account)) _ _ _ _ (λ _. sent (waits_for n seed v.stamp) (request_for n seed v.stamp)) λ _.
      quiet _ n

  -- so are the steps that write a terminating message
  leaves : (n : Node) → A (leaving_now n out) (leaving_now n out')
  unfolding leaving_now
  leaves n =
      pick_alike A n.session.live _ _ _ _
      (λ _. sent _ (terminating_of n.session.key n.settings.address n.settings.router n.session.stamp)) λ _.
      quiet _ n

  module _ (same : length out' ≡ length out) (n : Node) (now : ℕ) where
    -- what the buffer held decides nothing where a beacon is heard
    pub heard_alike : (seed m : List ℕ) → SameFrom written out out' (heard n now seed m out) (heard n now seed m out')
    unfolding heard
    heard_alike seed m =
        begin_alike written same (limit_of Misp) now n.clock (quiet _ n) (quiet _ n)
        (result_alike A (beacon_told m (read_beacon m)) _ _ _ _ (λ why. quiet _ (lapsed_at now n)) λ v _. by_beacon (lapsed_at now n) seed v)

    -- nor where a terminating message is written
    pub leaving_alike : SameFrom written out out' (leaving n now out) (leaving n now out')
    unfolding leaving
    leaving_alike =
        begin_alike written same (limit_of Misp) now n.clock (quiet _ n) (quiet _ n) (leaves (lapsed_at now n))
