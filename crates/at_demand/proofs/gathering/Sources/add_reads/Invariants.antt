use Rattle.std.proofs.Common.{◌≡◌, ◌++◌, take}
use Rattle.at_demand.proofs.gathering.Sources.add_reads.Given as goal

abbrev pub invariant-loop-loc : goal.invariant-loop-loc
invariant-loop-loc l = record {
  reads : l.self.reads.items ≡ l.initial.self.reads.items ++ take l.loc-index l.reads;
  kept : l.self.kept.items ≡ l.initial.self.kept.items;
}
