-- `ask` meets its contract.
use mathlib.Core.Path.{refl}
use Rattle.refusal.specs.declared.To.TheVariants.{Server}
use Rattle.turn.specs.Outcome.{with_place}
use Rattle.misp.specs.Request.{request_from}
use Rattle.refusal.specs.Step.{done}
use Rattle.turn.proofs.TurnLaws.{turned_by}
use Rattle.entering.proofs.AskedLaws.{asking_left}
use Rattle.entering.proofs.asking.ask.Goals as goal

pub returns : goal.returns
returns c = let a = c.args in
    record {
      leaves =
          λ q e f.
          asking_left q (with_place a.i a.after q) a.i a.from a.m.now (request_from a.m.now a.v) a.out.now e c.write_asked-w.ensures
          c.requires.asks.judges.room
          (turned_by done c.write_asked-w.result q a.i a.after Server f refl c.written.ensures);
    }
