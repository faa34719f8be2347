use Rattle.std.proofs.Common.{◌≡◌, take}
use Rattle.at_solve.specs.Searching.{HasListed}
use Rattle.at_solve.proofs.search.Search.mark_listed.Given as goal

abbrev pub invariant-loop-node : goal.invariant-loop-node
invariant-loop-node l = record {
  listed : HasListed (take l.node-index l.nodes) l.initial.self.marks.items l.self.marks.items;
  path : l.self.path.items ≡ l.initial.self.path.items;
  todo : l.self.todo.items ≡ l.initial.self.todo.items;
  groups : l.self.groups.items ≡ l.initial.self.groups.items;
  lists : l.self.lists.items ≡ l.initial.self.lists.items;
}
