-- `mis_read` meets its contract.
use Rattle.mis.proofs.reading.mis_read.Goals as goal

pub returns : goal.returns
returns c = rw (c.answer_number.ensures, c.read_misp.ensures)
