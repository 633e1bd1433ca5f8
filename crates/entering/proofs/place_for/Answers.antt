-- `place_for` meets its contract: one law for each way.
use Rattle.entering.proofs.RequestLaws.{only_full, seat_full, seat_known, seat_free, known_within, free_within}
use Rattle.entering.proofs.place_for.Goals as goal
use Rattle.entering.proofs.place_for.Goals.{in_default-via-in-Known+else-i-lt-COUNT, in_default-via-in-Free+else-i-lt-COUNT-2, in_default-via-in_default}

pub returns-in-Known : goal.returns-in-Known
returns-in-Known c = record {
  leaves =
      λ q h.
      rw c.in-Known.is (seat_known q _ h _ _ _ c.in-Known.is (c.place_known.ensures.leaves q h.same (rw c.in-Known.is at h.here)));
}

pub returns-in-Free : goal.returns-in-Free
returns-in-Free c = record {
  leaves =
      λ q h.
      rw c.in-Free.is (seat_free q _ h _ _ _ c.in-Free.is c.none.ensures c.place_with-after.ensures (c.ask.ensures.leaves q h.same (rw c.in-Free.is at h.here)));
}

pub returns-in_default : goal.returns-in_default
returns-in_default c = record {
  leaves =
      λ q h.
      elim c.in_default.branch [
        | in_default-via-in-Known+else-i-lt-COUNT w ↦ known_within q _ h w.in-Known.is w.if-i-lt-COUNT.false
        | in_default-via-in-Free+else-i-lt-COUNT-2 w ↦ free_within q _ h w.in-Free.is w.if-i-lt-COUNT-2.false
        | in_default-via-in_default w ↦ only_full _ w.in_default.not-Known w.in_default.not-Free (λ i e. seat_full q _ h _ _ _ e (c.fail.ensures.leaves q _ h.here))
      ];
}
