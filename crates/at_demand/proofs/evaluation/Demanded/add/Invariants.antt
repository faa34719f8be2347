use Rattle.std.proofs.Common.{◌≡◌, ◌++◌, take}
use Rattle.at_demand.proofs.evaluation.Demanded.add.Given as goal

abbrev pub invariant-loop-inst : goal.invariant-loop-inst
invariant-loop-inst l = record {
  kept : l.self.kept.items ≡ l.initial.self.kept.items ++ take l.inst-index l.kept;
  finds : l.self.finds.items ≡ l.initial.self.finds.items;
}
