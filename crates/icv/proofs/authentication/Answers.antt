-- `authentication` meets its contract: what the working area holds is what the definition joins.
use Prim.Native.Nat.{ℕ, ◌+◌, ◌≤◌}
use native.Mathlib.Omega.{arith}
use mathlib.Core.Path.{◌≡◌, sym, ap, ◌∙◌}
use mathlib.Core.List.{List, ◌++◌}
use lib.ListN.{length, drop, replicate}
use lib.Seq.{length-take-le}
use borrow.Author.Rules.{rules}
use Rattle.octets.proofs.ListLaws.{at_most}
use Rattle.octets.specs.Put.{zeroed}
use Rattle.md5_digest.specs.Md5.{md5_of}
use Rattle.icv.specs.Icv.{authentication_of}
use Rattle.icv.proofs.AreaLaws.{area_is}
use Rattle.icv.proofs.authentication.Goals as goal

-- the message is of at most 1500 bytes, and the area keeps its length, so the message and both addresses have room
pub slice_bounds-area-end : goal.slice_bounds-area-end
slice_bounds-area-end c = omega (arith, at_most 1500 c.args.m.now c.part-message.result.now c.part-message.ensures)

pub slice_bounds-put_bytes-end-2 : goal.slice_bounds-put_bytes-end-2
slice_bounds-put_bytes-end-2 c =
    let message = c.part-message.result.now in
    let short : length message ≤ 1500 = at_most 1500 c.args.m.now message c.part-message.ensures in
    sym (length-take-le (length message) c.put_bytes.new.out (omega arith))

pub slice_bounds-area-end-2 : goal.slice_bounds-area-end-2
slice_bounds-area-end-2 c = omega (arith, at_most 1500 c.args.m.now c.part-message.result.now c.part-message.ensures)

pub slice_bounds-md5-end : goal.slice_bounds-md5-end
slice_bounds-md5-end c =
    let message = c.part-message.result.now in
    let short : length message ≤ 1500 = at_most 1500 c.args.m.now message c.part-message.ensures in
    sym (length-take-le (length message + 12) c.put_bytes-4.new.out (omega arith))

pub returns : goal.returns
unfolding authentication_of
returns c =
    let a = c.args in
    let message = c.part-message.result.now in
    let short : length message ≤ 1500 = at_most 1500 a.m.now message c.part-message.ensures in
    let from : length a.sender ≡ 6 = search rules in
    let to : length a.receiver ≡ 6 = search rules in
    let rest : List ℕ = drop (length message) c.put_bytes.new.out in
    c.md5.ensures
    ∙ ap md5_of
    (area_is (replicate 1512 0) message a.sender a.receiver a.at (omega arith) from to
    c.put_bytes.new.out (c.put_bytes-2.new.out ++ rest) c.put_bytes-3.new.out c.put_bytes-4.new.out
    c.put_bytes.ensures (ap (λ (x : List ℕ). x ++ rest) c.put_bytes-2.ensures) c.put_bytes-3.ensures c.put_bytes-4.ensures)
    ∙ ap (λ (m : List ℕ). md5_of (zeroed a.at m ++ (a.sender ++ a.receiver))) c.part-message.ensures
