use Rattle.std.proofs.Common.{◌≡◌}
use Rattle.at_demand.specs.InTurns.{PutsInTurns}
use Rattle.at_demand.specs.Keeping.{Shares}
use Rattle.at_demand.proofs.demand.Demand.share_all.Given as goal

abbrev pub invariant-loop-position : goal.invariant-loop-position
invariant-loop-position g l = record {
  shares : Shares l.rules l.found.entries (g.K.Keeper.contents l.initial.self.keeper) (g.K.Keeper.contents l.self.keeper);
  work : l.self.work ≡ l.initial.self.work;
  traces : PutsInTurns (g.K.Keeper.memories l.initial.self.keeper) (g.K.Keeper.memories l.self.keeper);
}
