-- `accept` meets its contract.
use mathlib.Core.Path.{sym, ◌∙◌}
use Rattle.turn.proofs.TurnLaws.{turned_still}
use Rattle.settling.proofs.ReplyLaws.{accept_refused, accept_read, accept_key}
use Rattle.settling.proofs.accept.Goals as goal

pub open-requires : goal.open-requires
open-requires c = record { room = c.requires; key = accept_key c.args.m.now c.in-Ok.v (sym c.read_accept.ensures ∙ c.in-Ok.is) }

pub returns-in-Err : goal.returns-in-Err
returns-in-Err c = record { leaves = λ q e k. accept_refused q _ _ _ _ _ (sym c.read_accept.ensures ∙ c.in-Err.is) (turned_still q _ k c.refused.ensures) }

pub returns : goal.returns
returns c = record { leaves = λ q e k. accept_read q _ _ _ _ _ (sym c.read_accept.ensures ∙ c.in-Ok.is) (c.open.ensures.leaves q e k) }
