-- `reject` meets its contract.
use mathlib.Core.Path.{sym, ◌∙◌}
use lib.ListN.{get_or}
use Rattle.turn.proofs.TurnLaws.{turned_still}
use Rattle.settling.proofs.ReplyLaws.{settled_by, not_refused, reject_refused, reject_sent}
use Rattle.settling.proofs.reject.Goals as goal

pub returns-in-Err : goal.returns-in-Err
returns-in-Err c = let a = c.args in
    let i = get_or a.m.now 1 0 in
    λ settings.
    record {
      leaves =
          λ q e k.
          reject_refused q i a.m.now a.out.now a.p (sym c.read_reject.ensures ∙ c.in-Err.is)
          (turned_still q i k c.refused.ensures);
    }

pub returns : goal.returns
returns c = let a = c.args in
    let i = get_or a.m.now 1 0 in
    let given = not_refused _ c.in_default.not-Err in
    λ settings.
    record {
      leaves =
          λ q e k.
          reject_sent q i a.m.now a.out.now a.p (sym c.read_reject.ensures ∙ given.1) c.requires
          c.write_failure-w.ensures (settled_by c.write_failure-w.result q i a.p.session k c.settled.ensures c.written.ensures);
    }
