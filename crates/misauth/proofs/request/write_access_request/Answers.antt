-- `write_access_request` meets its contract.
use mathlib.Core.Path.{◌≡◌}
use borrow.Author.Rules.{rules}
use Rattle.std.specs.Option.{option_map}
use Rattle.octets.proofs.BytesLaws.{bytes_known}
use Rattle.object.specs.declared.family.Family.TheVariants.{Misauth}
use Rattle.message.specs.Laid.{laid_all}
use Rattle.message.proofs.WritingLaws.{writes_same, writes_small}
use Rattle.misauth.specs.AccessRequest.{given_in_range, access_request_in_range, runs_in_range, access_request_given}
use Rattle.misauth.proofs.GivenLaws.{given_bytes}
use Rattle.misauth.proofs.request.write_access_request.Goals as goal

pub returns-then-out-limit : goal.returns-then-out-limit
returns-then-out-limit c = writes_small Misauth _ _ _ c.limit.ensures c.if-out-limit.true

pub returns : goal.returns
unfolding laid_all given_in_range access_request_in_range runs_in_range access_request_given
returns c = let a = c.args in
    let groups = option_map (λ g. g.now) a.groups in
    let range : c.if-is_run.in_range ≡ given_in_range a.fields.now a.account.now a.proxies.now a.sixes.now groups = search rules in
    let bytes =
    given_bytes a.fields.now a.account.now a.proxies.now a.sixes.now groups (bytes_known a.proxies.now c.type_inv.proxies)
    (bytes_known a.sixes.now c.type_inv.sixes) c.from.ensures c.bytes-place.ensures c.optional.ensures c.perhaps.ensures in
    writes_same Misauth (given_in_range a.fields.now a.account.now a.proxies.now a.sixes.now groups) _ _ bytes (rw (← range) c.write.ensures)
