use Rattle.std.specs.Map.{keys_of}
use Rattle.at_demand.proofs.of_groups.SolvedGroups.{AreSolvedSoFar}
use Rattle.at_demand.proofs.demand.Demand.solve.Given as goal

abbrev pub invariant-loop-group : goal.invariant-loop-group
invariant-loop-group g l =
    AreSolvedSoFar l.rules l.store (keys_of l.seen.entries) l.group-items l.group-index
    (g.K.Keeper.contents l.initial.self.keeper)
    (g.K.Keeper.contents l.self.keeper) (g.K.Keeper.memories l.initial.self.keeper) (g.K.Keeper.memories l.self.keeper)
    l.initial.self.work l.self.work
    l.initial.question l.question
