-- `write_terminating` meets its contract: it is written with zeros, and the check value is put in their place.
use mathlib.Core.Path.{◌≡◌}
use borrow.Author.Rules.{rules}
use Rattle.std.specs.Prelude.{Err}
use Rattle.checked.specs.Checked.{terminating_of}
use Rattle.checked.proofs.WritesLaws.{checked_refused, checked_bytes}
use Rattle.checked.proofs.TerminatingLaws.{terminating_shape, terminating_offset, terminating_written}
use Rattle.checked.proofs.write_terminating.Goals as goal

pub returns-in_err-n : goal.returns-in_err-n
unfolding terminating_of
returns-in_err-n c =
    let told : c.from_residual.result ≡ Err c.in_err-n.field-0.0 = search rules in
    rw told
    (checked_refused (terminating_shape _) _ _ _ (terminating_written _ c.in_err-n.was c.write_terminating.ensures))

pub returns : goal.returns
unfolding terminating_of
returns c = checked_bytes (terminating_shape _) _ _ _
    (terminating_written _ c.in_ok-n.was c.write_terminating.ensures) (rw (terminating_offset _) c.put_check.ensures)
