-- `put_answer` meets its contract.
use Rattle.told.specs.Print.{answer_text}
use Rattle.told.proofs.PutsLaws.{puts_answer}
use Rattle.told.proofs.printing.put_answer.Goals as goal

pub returns-in-None : goal.returns-in-None
unfolding answer_text
returns-in-None c = rw c.in-None.is c.put_error.ensures

pub returns-in-Some : goal.returns-in-Some
returns-in-Some c = rw c.in-Some.is (puts_answer c.in-Some.said c.args.out.now c.answer_number.ensures c.part.ensures
    c.put_decimal-number.ensures c.next_hex-bytes.ensures c.next_to-receiver.ensures c.put.ensures)
