use Rattle.std.proofs.Common.{take}
use Rattle.at_demand.proofs.of_groups.KeptGroup.{AreKeptSince}
use Rattle.at_demand.proofs.demand.Demand.keep_group.Given as goal

abbrev pub invariant-loop-member : goal.invariant-loop-member
invariant-loop-member g l =
    AreKeptSince l.rules l.store l.insts l.group (take l.member-index l.group)
    (g.K.Keeper.contents l.initial.self.keeper)
    (g.K.Keeper.contents l.self.keeper) (g.K.Keeper.memories l.initial.self.keeper) (g.K.Keeper.memories l.self.keeper)
    l.initial.self.work l.self.work
    l.initial.question l.question
