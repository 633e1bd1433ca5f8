-- `free_place` meets its contract: the trailing zeros of the inverted word.
use mathlib.Core.Path.{◌≡◌}
use lib.ListN.{length}
use borrow.Author.Rules.{rules}
use Rattle.places.proofs.WordLaws.{trailing_zeros}
use Rattle.places.proofs.state.free_place.Goals as goal

pub returns : goal.returns
returns c = let many : length c.args.r.places ≡ 64 = search rules in
    rw c.occupancy.ensures (rw many at (trailing_zeros c.args.r.places))
