-- Of no places the word is 0.
use native.Mathlib.Omega.{arith}
use mathlib.Core.Path.{◌≡◌}
use lib.ListN.{length}
use borrow.Author.Rules.{rules}
use Rattle.places.proofs.WordLaws.{word_none}
use Rattle.places.proofs.state.occupancy.Goals as goal

pub loop-i-init : goal.loop-i-init
loop-i-init c =
    let many : length c.args.r.places ≡ 64 = search rules in
    (search rules, many, word_none c.args.r.places 64 (omega arith))
