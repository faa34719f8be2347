use Rattle.at_demand.proofs.of_traces.TurnsPut.{counted_kept}
use Rattle.at_demand.proofs.demand.Demand.turn_with.Goals as goal

pub returns : goal.returns
returns g c = record {
  turned = c.turn_unless_kept-told.ensures.turned;
  step = record {
    puts = c.turn_unless_kept-told.ensures.traces;
    makes = counted_kept (g.K.Keeper.contents c.args.self.now.keeper) (g.K.Keeper.contents c.turn_unless_kept-told.new.self.keeper)
        c.args.self.now.work c.turn_unless_kept-told.new.self.work c.args.self.now.made c.made_since-self.result
        c.turn_unless_kept-told.ensures.turned.gains.counts c.made_since-self.ensures;
    counts = c.turn_unless_kept-told.ensures.turned.gains.counts;
  };
}
