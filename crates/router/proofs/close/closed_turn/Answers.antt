-- `closed_turn` meets its contract: one law for each way.
use mathlib.Core.Path.{sym, ◌∙◌}
use Rattle.router.proofs.CloseLaws.{told_unread, told_ends}
use Rattle.router.proofs.close.closed_turn.Goals as goal

pub returns-in-Err : goal.returns-in-Err
returns-in-Err c = record { leaves = λ q i own whole n is. told_unread q i is _ _ (sym c.read_terminating.ensures ∙ c.in-Err.is) c.refused.ensures }

pub returns-in-Ok : goal.returns-in-Ok
returns-in-Ok c = record {
  leaves =
      λ q i own whole n is.
      told_ends q _ _ (sym c.read_terminating.ensures ∙ c.in-Ok.is) (c.close_by.ensures.leaves q i own whole n is);
}
