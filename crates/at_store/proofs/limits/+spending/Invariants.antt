use Rattle.std.proofs.Common.{◌≡◌, ◌-◌}
use Rattle.at_store.proofs.Spent.{rest_left, rest_trees_left}
use Rattle.at_store.proofs.limits.+spending.Given as goal

abbrev pub invariant-left_after-loop-cell : goal.invariant-left_after-loop-cell
invariant-left_after-loop-cell l = rest_left l.cell-items 0 (l.room - 1) (l.levels - 1) ≡ rest_left l.cell-items l.cell-index l.left (l.levels - 1)

abbrev pub invariant-left_after_list-loop-tree : goal.invariant-left_after_list-loop-tree
invariant-left_after_list-loop-tree l = rest_trees_left l.trees 0 l.room l.levels ≡ rest_trees_left l.trees l.tree-index l.left l.levels
