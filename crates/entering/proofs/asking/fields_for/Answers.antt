-- `fields_for` meets its contract.
use mathlib.Core.Path.{ap, ◌∙◌}
use lib.Seq.{take_all}
use native.Mathlib.Omega.{arith}
use Rattle.octets.specs.Numbers.{number_of}
use Rattle.octets.proofs.FittedLaws.{fitted_is}
use Rattle.octets.specs.Part.{bytes_at}
use Rattle.entering.specs.Parts.{fields_for}
use Rattle.entering.proofs.asking.fields_for.Goals as goal

pub returns : goal.returns
unfolding fields_for
returns c = let m = c.args.m.now in
    let v = c.args.v in
    let check = c.sixteen_at-check.ensures ∙ fitted_is 16 (bytes_at m v.check) c.requires.vouched.check in
    let seed = c.sixteen_at-seed.ensures ∙ fitted_is 16 (bytes_at m v.seed) c.requires.vouched.seed in
    let two = c.requires.one_number in
    let type = c.type_of.ensures ∙ ap number_of (take_all 2 (bytes_at m v.security) (omega arith)) in
    rw (c.data-authentication.ensures, check, seed, type)
