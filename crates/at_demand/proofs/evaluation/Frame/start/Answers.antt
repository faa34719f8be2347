use Rattle.at_store.specs.Shown.{contents}
use Rattle.at_demand.proofs.Truth.{started}
use Rattle.at_demand.proofs.Passing.{passed_start}
use Rattle.at_demand.proofs.evaluation.Frame.start.Goals as goal

pub returns : goal.returns
returns c =
    let rules = c.args.rules.now in
    let look = contents c.args.store.now in
    let inst = c.args.inst.now in
    let step = c.in_ok-step.step in
    let e = c.in_ok-step.ensures in
    record {
      fresh = c.new-demanded.ensures.kept;
      unfound = c.new-demanded.ensures.finds;
      stepped = started rules look inst c.restart.new.self step e.found;
      passed = λ finds. passed_start rules look finds inst (record { trial = c.restart.new.self; demanded = c.new-demanded.result }) step e.found;
      typed = e.typed;
    }
