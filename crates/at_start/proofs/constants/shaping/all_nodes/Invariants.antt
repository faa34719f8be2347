use Rattle.std.proofs.Common.{◌≡◌, map, take}
use Rattle.std.specs.Prelude.{min}
use Rattle.at_model.specs.Trees.{to_trees, trees_nodes}
use Rattle.at_class.specs.TreeView.{tree_view}
use Rattle.at_start.proofs.constants.shaping.all_nodes.Given as goal

abbrev pub invariant-loop-tree : goal.invariant-loop-tree
invariant-loop-tree l = l.count ≡ min (trees_nodes (to_trees (map tree_view (take l.tree-index l.trees)))) 18446744073709551615
