-- `open` meets its contract.
use mathlib.Core.Path.{sym, ◌∙◌}
use lib.ListN.{get_or}
use Rattle.turn.proofs.TurnLaws.{turned_still}
use Rattle.settling.proofs.ReplyLaws.{settled_by, open_other, open_sent}
use Rattle.settling.proofs.open.Goals as goal

pub opened-session-requires : goal.opened-session-requires
opened-session-requires c = c.requires.key

pub returns-then-not-is_for : goal.returns-then-not-is_for
returns-then-not-is_for c = let a = c.args in
    let i = get_or a.m.now 1 0 in
    record {
      leaves =
          λ q e k.
          open_other q i a.clock a.m.now a.v a.out.now a.p
          (sym c.is_for.ensures ∙ c.if-not-is_for.true) (turned_still q i k c.refused.ensures);
    }

pub returns : goal.returns
returns c = let a = c.args in
    let i = get_or a.m.now 1 0 in
    record {
      leaves =
          λ q e k.
          open_sent q i a.clock a.m.now a.v a.out.now a.p {w = c.write_success-w.result} c.requires.room
          (sym c.is_for.ensures ∙ c.if-not-is_for.false) (c.opened-session.ensures q e) (rw e c.write_success-w.ensures)
          (settled_by c.write_success-w.result q i c.opened-session.result k c.settled.ensures c.written.ensures);
    }
