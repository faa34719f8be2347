use Rattle.std.proofs.Common.{◌≡◌, ◌++◌, take}
use Rattle.at_solve.proofs.search.Search.add_targets.Given as goal

abbrev pub invariant-loop-target : goal.invariant-loop-target
invariant-loop-target l = record {
  todo : l.self.todo.items ≡ l.initial.self.todo.items ++ take l.target-index l.targets;
  marks : l.self.marks.items ≡ l.initial.self.marks.items;
  path : l.self.path.items ≡ l.initial.self.path.items;
  groups : l.self.groups.items ≡ l.initial.self.groups.items;
  lists : l.self.lists.items ≡ l.initial.self.lists.items;
}
