-- `write_success` meets its contract: it is written with zeros, and the check value is put in their place.
use mathlib.Core.Path.{◌≡◌}
use borrow.Author.Rules.{rules}
use Rattle.std.specs.Prelude.{Err}
use Rattle.checked.specs.Checked.{success_of}
use Rattle.checked.proofs.WritesLaws.{checked_refused, checked_bytes}
use Rattle.checked.proofs.SuccessLaws.{success_shape, success_offset, success_written}
use Rattle.checked.proofs.write_success.Goals as goal

pub returns-in_err-n : goal.returns-in_err-n
unfolding success_of
returns-in_err-n c =
    let told : c.from_residual.result ≡ Err c.in_err-n.field-0.0 = search rules in
    rw told
    (checked_refused (success_shape _ _ _) _ _ _ (success_written _ _ _ c.list_of-layers.ensures c.in_err-n.was c.write_success.ensures))

pub returns : goal.returns
unfolding success_of
returns c = checked_bytes (success_shape _ _ _) _ _ _
    (success_written _ _ _ c.list_of-layers.ensures c.in_ok-n.was c.write_success.ensures)
    (rw (success_offset _ _ _) c.put_check.ensures)
