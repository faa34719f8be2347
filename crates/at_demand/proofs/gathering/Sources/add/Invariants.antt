use Rattle.std.proofs.Common.{◌≡◌, ◌++◌, take}
use Rattle.at_demand.proofs.gathering.Sources.add.Given as goal

abbrev pub invariant-loop-inst : goal.invariant-loop-inst
invariant-loop-inst l = record {
  kept : l.self.kept.items ≡ l.initial.self.kept.items ++ take l.inst-index l.find.demanded.kept.items;
  reads : l.self.reads.items ≡ l.initial.self.reads.items;
}
