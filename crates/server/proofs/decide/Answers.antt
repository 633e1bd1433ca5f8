-- `decide` meets its contract.
use mathlib.Core.Path.{sym, ◌∙◌}
use Rattle.refusal.proofs.StepLaws.{leaves_same}
use Rattle.server.proofs.StepLaws.{leaves_refused, reader_refuses, accepted, rejected}
use Rattle.server.proofs.decide.Goals as goal

pub returns-in-Err : goal.returns-in-Err
returns-in-Err c = let a = c.args in
    leaves_refused
    (reader_refuses a.mill.now a.visitors.now a.secret.now a.m.now a.out.now (sym c.read_access_request.ensures ∙ c.in-Err.is))

pub returns-then-accepts : goal.returns-then-accepts
returns-then-accepts c =
    let a = c.args in
    leaves_same
    (accepted a.mill.now a.visitors.now a.secret.now a.m.now a.out.now c.requires c.in-Ok.r
    (sym c.read_access_request.ensures ∙ c.in-Ok.is) c.bytes_at-name.ensures c.password_in-password.ensures
    c.sixteen_at-authentication.ensures c.sixteen_at-check.ensures c.accepts.ensures c.if-accepts.true c.sixteen_at-seed.ensures)
    c.accept.ensures

pub returns : goal.returns
returns c =
    let a = c.args in
    leaves_same
    (rejected a.mill.now a.visitors.now a.secret.now a.m.now a.out.now c.requires c.in-Ok.r
    (sym c.read_access_request.ensures ∙ c.in-Ok.is) c.bytes_at-name.ensures c.password_in-password.ensures
    c.sixteen_at-authentication.ensures c.sixteen_at-check.ensures c.accepts.ensures c.if-accepts.false)
    c.reject.ensures
