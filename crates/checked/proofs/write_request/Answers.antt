-- `write_request` meets its contract: it is written with zeros, and the check value is put in their place.
use mathlib.Core.Path.{◌≡◌}
use borrow.Author.Rules.{rules}
use Rattle.std.specs.Prelude.{Err}
use Rattle.checked.specs.Checked.{request_of}
use Rattle.checked.proofs.WritesLaws.{checked_refused, checked_bytes}
use Rattle.checked.proofs.RequestLaws.{request_shape, request_offset, request_written}
use Rattle.checked.proofs.write_request.Goals as goal

pub returns-in_err-n : goal.returns-in_err-n
unfolding request_of
returns-in_err-n c =
    let told : c.from_residual.result ≡ Err c.in_err-n.field-0.0 = search rules in
    rw told
    (checked_refused (request_shape _ _ _ _ _) _ _ _
    (request_written _ _ _ _ _ c.list_of-security.ensures c.list_of-layers.ensures c.in_err-n.was c.write_request.ensures))

pub returns : goal.returns
unfolding request_of
returns c = checked_bytes (request_shape _ _ _ _ _) _ _ _
    (request_written _ _ _ _ _ c.list_of-security.ensures c.list_of-layers.ensures c.in_ok-n.was c.write_request.ensures)
    (rw (request_offset _ _ _ _ _) c.put_check.ensures)
