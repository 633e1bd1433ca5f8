-- `judge` meets its contract.
use Rattle.refusal.proofs.StepLaws.{leaves_same}
use Rattle.server.proofs.StepLaws.{leaves_refused, other_code, unknown_router, wrong_authenticator, authentic}
use Rattle.server.proofs.judge.Goals as goal

pub returns-then-byte_at-ne1 : goal.returns-then-byte_at-ne1
returns-then-byte_at-ne1 c = leaves_refused (other_code _ _ _ _ _ _ c.byte_at.ensures c.if-byte_at-ne1.true)

pub returns-then-secret-eq0 : goal.returns-then-secret-eq0
returns-then-secret-eq0 c = leaves_refused
    (unknown_router _ _ _ _ _ _ c.byte_at.ensures c.if-byte_at-ne1.false c.requires.mill_whole c.secret_in-secret.ensures c.if-secret-eq0.true)

pub returns-then-not-is_authentic : goal.returns-then-not-is_authentic
returns-then-not-is_authentic c = leaves_refused
    (wrong_authenticator _ _ _ _ _ _ c.byte_at.ensures c.if-byte_at-ne1.false c.requires.mill_whole c.secret_in-secret.ensures c.if-secret-eq0.false
    c.part.ensures c.is_authentic.ensures c.if-not-is_authentic.true)

pub returns : goal.returns
returns c = leaves_same
    (authentic _ _ _ _ _ _ c.byte_at.ensures c.if-byte_at-ne1.false c.requires.mill_whole c.secret_in-secret.ensures c.if-secret-eq0.false
    c.part.ensures c.is_authentic.ensures c.if-not-is_authentic.false)
    c.decide.ensures
