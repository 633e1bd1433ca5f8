-- `fail` meets its contract.
use Rattle.std.specs.Prelude.{Err}
use mathlib.Core.Path.{refl, ap, ◌∙◌}
use Rattle.refusal.specs.Step.{by_writer}
use Rattle.refusal.specs.declared.To.TheVariants.{Address}
use Rattle.places.specs.declared.state.Router.{Router}
use Rattle.turn.proofs.TurnLaws.{state_stays, turned_by}
use Rattle.misp.specs.Request.{request_from}
use Rattle.entering.proofs.RequestLaws.{fail_left}
use Rattle.entering.proofs.asking.fail.Goals as goal

pub returns : goal.returns
returns c = let a = c.args in
    record {
      leaves =
          λ q i f.
          fail_left a.why a.reason q a.from (request_from a.m.now a.v) a.out.now c.requires c.write_failure-w.ensures
          (turned_by (Err a.why) c.write_failure-w.result q i a.p (Address a.from) f refl c.written.ensures
          ∙ ap (λ (z : Router). by_writer c.write_failure-w.result (Err a.why) q z (Address a.from)) (state_stays q i f));
    }
