-- `first` meets its contract. The loop's invariant: `n` is the number that the first `i` bytes spell.
use Prim.Native.Nat.{◌^◌, ◌<◌}
use mathlib.Core.Path.{◌≡◌, refl, sym}
use native.Mathlib.Omega.{arith}
use Rattle.octets.specs.Numbers.{number_of}
use Rattle.octets.proofs.BytesLaws.{bytes_known}
use Rattle.octets.proofs.NumberLaws.{number_next, seven_below}
use Rattle.octets.proofs.number.first.Goals as goal

pub loop-i-init : goal.loop-i-init
unfolding number_of
loop-i-init c = (omega arith, c.requires.0, c.requires.1, refl)

pub overflow_mul-n : goal.overflow_mul-n
overflow_mul-n c = let v = c.args.value.now in
    omega (arith, seven_below v c.loop-i.i c.loop-i.n (omega arith) (bytes_known v c.type_inv.value) c.loop-i.invariant.3)

pub overflow_add-n : goal.overflow_add-n
overflow_add-n c = let v = c.args.value.now in
    let b = bytes_known v c.type_inv.value in
    let below : c.loop-i.n < 256 ^ 7 = seven_below v c.loop-i.i c.loop-i.n (omega arith) b c.loop-i.invariant.3 in
    omega (arith, c.from.ensures, b.small c.loop-i.i)

pub loop-i-preserved : goal.loop-i-preserved
loop-i-preserved c = let v = c.args.value.now in
    (omega arith, c.loop-i.invariant.1, c.loop-i.invariant.2, rw (c.loop-i.invariant.3, c.from.ensures) (sym (number_next v c.loop-i.i (omega arith))))

pub returns : goal.returns
returns c = let e : c.loop-i.i ≡ c.args.size = omega arith in
    rw e at c.loop-i.invariant.3
