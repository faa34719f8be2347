use Rattle.std.proofs.Common.{◌-◌, ◌^◌}
use Rattle.at_cache.specs.Kept.{AreKept}
use Rattle.at_evaluate.specs.Valued.{AreValued}
use Rattle.at_demand.specs.Known.{FoundKept}
use Rattle.at_demand.specs.Only.{IsFrom}
use Rattle.at_demand.proofs.Gathered.{IsVisited}
use Rattle.at_demand.proofs.gathering.Sources.of.Given as goal

abbrev pub invariant-loop-next : goal.invariant-loop-next
invariant-loop-next g l = record {
  kept : FoundKept (g.K.Keeper.contents l.keeper) l.found.entries → AreValued (g.K.Keeper.contents l.keeper) l.find.demanded.kept.items → AreKept (g.K.Keeper.contents l.keeper) l.sources.kept.items;
  visited : IsVisited l.found.entries l.find l.sources l.visited.keys l.next;
  from : IsFrom l.found.entries l.find l.sources l.visited.keys;
}

abbrev pub decreases-loop-next : goal.decreases-loop-next
decreases-loop-next g l = 2 ^ 64 - l.next
