use Rattle.std.specs.Map.{keys_of}
use Rattle.at_demand.specs.Levels.{known_to}
use Rattle.at_demand.proofs.of_steps.TryUnderWay.{IsTrying}
use Rattle.at_demand.proofs.of_steps.WaitsMet.{unknown_of}
use Rattle.at_demand.proofs.demand.Demand.try_last.Given as goal

abbrev pub invariant-loop-value : goal.invariant-loop-value
invariant-loop-value g l = IsTrying l.rules l.store (g.K.Keeper.contents l.initial.self.keeper) (g.K.Keeper.contents l.self.keeper)
    (g.K.Keeper.memories l.initial.self.keeper) (g.K.Keeper.memories l.self.keeper) l.initial.self.work l.self.work l.initial.question l.question l.trials l.going

abbrev pub decreases-loop-value : goal.decreases-loop-value
decreases-loop-value g l = unknown_of (known_to (g.K.Keeper.contents l.self.keeper) l.question) (keys_of l.question.ended.entries)
