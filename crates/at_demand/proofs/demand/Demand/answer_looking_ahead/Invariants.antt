use Rattle.std.proofs.Common.{◌-◌, ◌^◌}
use Rattle.at_demand.specs.KeptTrials.{Fit}
use Rattle.at_demand.proofs.of_steps.Ahead.{StandsAhead}
use Rattle.at_demand.specs.StateOf.{state_of}
use Rattle.at_demand.proofs.demand.Demand.answer_looking_ahead.Given as goal

abbrev pub invariant-loop-given : goal.invariant-loop-given
invariant-loop-given g l = record {
  so : StandsAhead l.rules l.store l.inst (state_of g.K.Keeper.contents g.K.Keeper.memories l.initial.self)
      (state_of g.K.Keeper.contents g.K.Keeper.memories l.self) l.question;
  fit : Fit l.rules l.store (g.K.Keeper.contents l.self.keeper) l.question l.trials;
}

abbrev pub decreases-loop-given : goal.decreases-loop-given
decreases-loop-given g l = 2 ^ 64 - l.given
