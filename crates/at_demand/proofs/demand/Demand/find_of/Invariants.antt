use Rattle.std.proofs.Common.{take}
use Rattle.at_demand.proofs.Grouped.{IsFindSoFar}
use Rattle.at_demand.proofs.demand.Demand.find_of.Given as goal

abbrev pub invariant-loop-member : goal.invariant-loop-member
invariant-loop-member g l =
    IsFindSoFar (g.K.Keeper.contents l.self.keeper) l.question l.insts (take l.member-index l.group) l.initial.find l.find
