use Rattle.std.proofs.Common.{length}
use Rattle.at_demand.proofs.of_levels.ClosedLevels.{IsClosing}
use Rattle.at_demand.proofs.demand.Demand.close.Given as goal

abbrev pub invariant-loop-at : goal.invariant-loop-at
invariant-loop-at g l = IsClosing l.rules l.store (g.K.Keeper.contents l.initial.self.keeper) (g.K.Keeper.contents l.self.keeper)
    (g.K.Keeper.memories l.initial.self.keeper) (g.K.Keeper.memories l.self.keeper) l.initial.self.work l.self.work l.initial.question l.question

abbrev pub decreases-loop-at : goal.decreases-loop-at
decreases-loop-at g l = length l.question.waiting.entries
