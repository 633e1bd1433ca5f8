-- `write_beacon` meets its contract.
use mathlib.Core.Path.{◌≡◌}
use lib.ListN.{length}
use borrow.Author.Rules.{rules}
use Rattle.router.proofs.BeaconLaws.{beacon_written}
use Rattle.router.proofs.beacon.write_beacon.Goals as goal

pub returns : goal.returns
returns c =
    let whole : length c.args.s.groups ≡ 64 = search rules in
    beacon_written c.args.s whole c.args.clock c.args.serial c.groups.ensures c.list_of-layers.ensures
    c.no_extras.ensures c.write_beacon.ensures
