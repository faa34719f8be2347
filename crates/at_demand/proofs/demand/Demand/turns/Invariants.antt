use Rattle.std.proofs.Common.{◌≤◌, ◌-◌, []}
use Rattle.at_cache.specs.Traced.{StayTraced}
use Rattle.at_demand.specs.KeptTrials.{Fit}
use Rattle.at_demand.specs.StateOf.{state_of}
use Rattle.at_demand.specs.Went.{Went}
use Rattle.at_demand.proofs.of_steps.Given.{HasGivenSo}
use Rattle.at_demand.proofs.demand.Demand.turns.Given as goal

abbrev pub invariant-loop-given : goal.invariant-loop-given
invariant-loop-given g l = record {
  so : HasGivenSo l.rules l.store (g.K.Keeper.memories l.initial.self.keeper) (g.K.Keeper.contents l.initial.self.keeper) (g.K.Keeper.contents l.self.keeper)
      l.initial.self.work l.self.work l.given l.initial.question l.question;
  fit : Fit l.rules l.store (g.K.Keeper.contents l.self.keeper) l.question l.trials;
  within : l.given ≤ l.most;
  traces : StayTraced (g.K.Keeper.memories l.initial.self.keeper) (g.K.Keeper.memories l.self.keeper);
  went : Went (state_of g.K.Keeper.contents g.K.Keeper.memories l.initial.self) [] (state_of g.K.Keeper.contents g.K.Keeper.memories l.self);
}

abbrev pub decreases-loop-given : goal.decreases-loop-given
decreases-loop-given g l = l.most - l.given
