use Rattle.at_store.specs.Shown.{contents}
use Rattle.at_demand.proofs.of_levels.FormingOn.{formed_start}
use Rattle.at_demand.proofs.formation.Formation.start.Goals as goal

pub returns : goal.returns
returns c =
    let e = c.in_ok-forming.ensures in
    record {
      fresh = c.new-demanded.ensures.kept;
      unfound = c.new-demanded.ensures.finds;
      passed = λ finds. formed_start c.args.rules.now (contents c.args.store.now) finds c.args.inst.now (record { forming = c.in_ok-forming.forming; demanded = c.new-demanded.result }) c.in_ok-forming.progress e.found;
      typed = e.typed;
    }

pub start-requires-clause-asked : goal.start-requires-clause-asked
start-requires-clause-asked c = record {
  idle = c.requires.can.basis.idle;
  formed = c.requires.can.basis.formed;
  sound = c.requires.can.basis.sound;
  typed = c.requires.can.typed;
}
