-- The window: what the test of freshness says of a stamp's age, and the other way round.
use Rattle.std.specs.Prelude.{ℕ, ◌-◌, ◌≤◌, ◌<◌, ◌≡◌, true, false}
use Rattle.std.proofs.Common.{ltb-true, ltb-false, le-ltb}
use Rattle.clock.specs.Clock.{is_stale}

module _ (now stamp window : ℕ) where
  -- what passes the test is at most the window old
  pub fresh_young : is_stale now stamp window ≡ false → now - stamp ≤ window
  fresh_young e = ltb-false window (now - stamp) e

  -- what fails it is older than the window
  pub stale_old : is_stale now stamp window ≡ true → window < now - stamp
  stale_old e = ltb-true window (now - stamp) e

  -- what is at most the window old passes it
  pub young_fresh : now - stamp ≤ window → is_stale now stamp window ≡ false
  young_fresh young = le-ltb window (now - stamp) young
