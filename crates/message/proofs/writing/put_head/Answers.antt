-- `put_head` meets its contract.
use native.Mathlib.Omega.{arith}
use lib.ListN.{length-set}
use Rattle.message.proofs.WritingLaws.{header_least, head_put, head_none}
use Rattle.message.proofs.writing.put_head.Goals as goal

pub bounds-out-0 : goal.bounds-out-0
bounds-out-0 c = omega (arith, c.header-header.ensures, header_least c.args.f)

pub bounds-out-1 : goal.bounds-out-1
bounds-out-1 c = simp length-set (omega (arith, c.header-header.ensures, header_least c.args.f))

pub overflow_sub-header : goal.overflow_sub-header
overflow_sub-header c = omega (arith, c.header-header.ensures, header_least c.args.f)

pub returns-then-header-out : goal.returns-then-header-out
returns-then-header-out c = let a = c.args in
    head_put a.f a.code a.second a.end c.header-header.result a.out.now c.header-header.ensures c.if-header-out.true
    c.put_number.ensures c.put_number-then-header-out.ensures

pub returns-else-header-out : goal.returns-else-header-out
returns-else-header-out c = let a = c.args in
    head_none a.f a.code a.second a.end c.header-header.result a.out.now c.header-header.ensures c.if-header-out.false
