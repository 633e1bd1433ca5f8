-- `size` meets its contract.
use mathlib.Core.Path.{sym, ◌∙◌}
use Rattle.octets.specs.Numbers.{bytes_of}
use Rattle.octets.proofs.NumberLaws.{bytes_length}
use Rattle.message.proofs.LaidLaws.{size_law}
use Rattle.message.proofs.writing.size.Goals as goal

pub returns-in-Bytes : goal.returns-in-Bytes
returns-in-Bytes c = rw c.in-Bytes.is (c.sized.ensures ∙ sym (size_law c.in-Bytes.field-0 c.in-Bytes.value.now))

pub returns-in-Number : goal.returns-in-Number
returns-in-Number c = let i = c.in-Number in
    rw i.is (c.sized-in-Number.ensures ∙ sym (rw bytes_length at (size_law i.field-0 (bytes_of i.size i.field-2))))
