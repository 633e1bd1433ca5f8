-- `put` meets its contract.
use mathlib.Core.Path.{sym}
use Rattle.octets.proofs.PutLaws.{put_in_nothing}
use Rattle.message.proofs.ObjectLaws.{encoded_one}
use Rattle.message.proofs.writing.put.Goals as goal

pub returns-in-Bytes-clause-size : goal.returns-in-Bytes-clause-size
returns-in-Bytes-clause-size c = let i = c.in-Bytes in rw (i.is, ← encoded_one) c.put_object.ensures.size

pub returns-in-Bytes-clause-left : goal.returns-in-Bytes-clause-left
returns-in-Bytes-clause-left c = let i = c.in-Bytes in rw (i.is, ← encoded_one) c.put_object.ensures.left

pub returns-in-Number-clause-size : goal.returns-in-Number-clause-size
returns-in-Number-clause-size c = let i = c.in-Number in rw (i.is, ← encoded_one) c.put_number.ensures.size

pub returns-in-Number-clause-left : goal.returns-in-Number-clause-left
returns-in-Number-clause-left c = let i = c.in-Number in rw (i.is, ← encoded_one) c.put_number.ensures.left

pub returns-in-Missing-clause-left : goal.returns-in-Missing-clause-left
returns-in-Missing-clause-left c = rw c.in-Missing.is (sym (put_in_nothing c.args.out.now c.args.at))
