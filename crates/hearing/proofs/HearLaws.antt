-- The exits of a beacon at a node.
use Rattle.std.specs.Prelude.{Result, Ok, Err}
use Prim.Native.Nat.{ℕ, ◌≤◌}
use mathlib.Core.Path.{◌≡◌, ap, ◌∙◌}
use mathlib.Core.Bool.{true, false}
use mathlib.Core.List.{List, []}
use lib.ListN.{length}
use borrow.Author.Tests.{le-ltb}
use Rattle.refusal.specs.declared.Outcome.{Outcome}
use Rattle.held.specs.Held.{held_bytes}
use Rattle.terms.specs.Terms.{lists}
use Rattle.refusal.specs.declared.Refusal.{Refusal}
use Rattle.refusal.specs.declared.Refusal.TheVariants.{NotExpected, StampUsed, SecurityType, NetworkNumber}
use Rattle.object.specs.declared.family.Family.TheVariants.{Misp}
use Rattle.object.specs.Family.{limit_of}
use Rattle.octets.specs.Part.{bytes_at}
use Rattle.message.specs.Writing.{Writes, is_name}
use Rattle.message.proofs.WroteLaws.{wrote_left, unwritten}
use Rattle.beacons.specs.Beacon.{read_beacon, beacon_from, beacon_told}
use Rattle.beacons.specs.declared.beacon.Beacon.{Beacon}
use Rattle.checked.specs.Checked.{request_of}
use Rattle.checked.proofs.RequestLaws.{request_of_fits}
use Rattle.node.specs.declared.Node.{Node}
use Rattle.refusal.specs.Step.{Leaves, refused_with}
use Rattle.refusal.proofs.StepLaws.{leaves_told}
use Rattle.node.specs.State.{sent, lapsed_at}
use Rattle.hearing.specs.Hear.{engaged, is_above, request_for, waits_for, asking_router, answering, heard}
use Rattle.node.proofs.SentLaws.{written_sent}

-- the request
module _ (n : Node) (seed : List ℕ) (stamp : ℕ) where
  -- what its writer leaves
  abbrev Written : List ℕ → List ℕ → Result ℕ Refusal → Type 0
  Written out after r = Writes Misp (is_name (held_bytes n.settings.account)) (request_for n seed stamp) out after r

  -- it is never too long
  request_for_fits : length (request_for n seed stamp) ≤ limit_of Misp
  unfolding request_for
  request_for_fits =
      let s = n.settings in
      request_of_fits stamp s.kind (held_bytes s.account) seed s.network (held_bytes s.password) s.address s.router

  -- its writer was given the node's own password and account
  pub request_writes : {password account out after : List ℕ} {r : Result ℕ Refusal} → password ≡ held_bytes n.settings.password → account ≡ held_bytes n.settings.account
      → Writes Misp (is_name account) (request_of password n.settings.address n.settings.router stamp n.settings.kind account seed n.settings.network) out after r
      → Written out after r
  unfolding request_for
  request_writes e f w = rw (e, f) at w

  -- it goes out, and the node waits
  pub request_sent : {out after : List ℕ} {r : Result ℕ Refusal} {k : ℕ} → Written out after r → r ≡ Ok k → {q : Node} {o : Outcome Node} → q ≡ waits_for n seed stamp → o ≡ sent q k
      → Leaves (asking_router n seed stamp out) o after
  request_sent {out} {after} {k = k} w e f g =
      let v : Written out after (Ok k) = rw e at w in
      rw (wrote_left v).range (written_sent v (g ∙ ap (λ (p : Node). sent p k) f))

  -- it cannot be written: 18
  pub request_unsent : {out after : List ℕ} {r : Result ℕ Refusal} {why : Refusal} → limit_of Misp ≤ length out → Written out after r → r ≡ Err why → {o : Outcome Node} → o ≡ (refused_with why n []).outcome
      → Leaves (asking_router n seed stamp out) o after
  request_unsent {out} {after} {why = why} room w e f =
      let v : Written out after (Err why) = rw e at w in
      let u = unwritten v request_for_fits room in
      rw u.range (record { told = f ∙ ap (λ (y : Refusal). (refused_with y n []).outcome) u.reason; left = u.kept })

-- a beacon that was read
module _ (n : Node) (seed : List ℕ) (v : Beacon) (m out : List ℕ) where
  -- what it leaves
  abbrev Does : Outcome Node → List ℕ → Type 0
  Does o after = Leaves (answering n seed (beacon_from m v) out) o after

  -- 21
  pub busy : engaged n v.stamp ≡ true → {o : Outcome Node} → o ≡ (refused_with NotExpected n []).outcome → Does o out
  unfolding answering
  busy a e = rw a (leaves_told e)

  module _ (a : engaged n v.stamp ≡ false) where
    -- 13
    pub used_up : is_above v.stamp n.used ≡ false → {o : Outcome Node} → o ≡ (refused_with StampUsed n []).outcome → Does o out
    unfolding answering
    used_up b e = rw (a, b) (leaves_told e)

    module _ (b : is_above v.stamp n.used ≡ true) {l : List ℕ} (f : l ≡ bytes_at m v.security) where
      -- 9
      pub other_type : lists n.settings.kind l ≡ false → {o : Outcome Node} → o ≡ (refused_with SecurityType n []).outcome → Does o out
      unfolding answering
      other_type s e = rw (a, b, rw f at s) (leaves_told e)

      module _ (s : lists n.settings.kind l ≡ true) {k : List ℕ} (g : k ≡ bytes_at m v.layers) where
        -- 10
        pub other_network : lists n.settings.network k ≡ false → {o : Outcome Node} → o ≡ (refused_with NetworkNumber n []).outcome → Does o out
        unfolding answering
        other_network t e = rw (a, b, rw f at s, rw g at t) (leaves_told e)

        -- past them the request
        pub beacon_passed : lists n.settings.network k ≡ true → {o : Outcome Node} {after : List ℕ} → Leaves (asking_router n seed v.stamp out) o after → Does o after
        unfolding answering
        beacon_passed t p = rw (a, b, rw f at s, rw g at t) p

-- a call, past 20 and 7: 1 to 6, then a beacon that was read
module _ (n : Node) (clock : ℕ) (seed m out : List ℕ) {limit : ℕ} (is : limit ≡ limit_of Misp) where
  -- what the call leaves
  abbrev Hears : Outcome Node → List ℕ → Type 0
  Hears o after = Leaves (heard n clock seed m out) o after

  module _ (h : limit ≤ length out) (a : n.clock ≤ clock) {q : Node} (e : q ≡ lapsed_at clock n) where
    -- 1 to 6
    pub hear_refused : {why : Refusal} → read_beacon m ≡ Err why → {o : Outcome Node} → o ≡ (refused_with why q []).outcome → Hears o out
    unfolding heard beacon_told
    hear_refused r p = rw (le-ltb _ _ (rw is at h), le-ltb _ _ a, r) (leaves_told (rw e at p))

    -- past them
    pub hear_read : {v : Beacon} → read_beacon m ≡ Ok v → {o : Outcome Node} {after : List ℕ} → Leaves (answering q seed (beacon_from m v) out) o after → Hears o after
    unfolding heard beacon_told
    hear_read r p = rw (le-ltb _ _ (rw is at h), le-ltb _ _ a, r) (rw e at p)
