-- `close_by` meets its contract: one law for each way.
use Rattle.router.proofs.CloseLaws.{ends_refused, ends_right}
use Rattle.router.proofs.close.close_by.Goals as goal

pub returns-in-Err : goal.returns-in-Err
returns-in-Err c = record {
  leaves =
      λ q i own whole n is.
      ends_refused q i is own whole _ _ _ n (rw c.is_session.ensures at c.under_key.ensures) c.in-Err.is c.refused.ensures;
}

pub returns-in-Ok : goal.returns-in-Ok
returns-in-Ok c = record {
  leaves =
      λ q i own whole n is.
      ends_right q i is own whole _ _ _ n (rw c.is_session.ensures at c.under_key.ensures) c.in-Ok.is c.closed_place.ensures c.silent.ensures;
}
