-- `mis_readauth` meets its contract.
use Rattle.mis.proofs.reading.mis_readauth.Goals as goal

pub returns : goal.returns
returns c = rw (c.answer_number.ensures, c.read_misauth.ensures)
