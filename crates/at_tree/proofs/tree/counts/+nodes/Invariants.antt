use Rattle.std.proofs.Common.{◌≡◌, ◌+◌, map, take}
use Rattle.std.specs.Prelude.{min}
use Rattle.at_model.specs.Trees.{to_cells, to_trees, cells_nodes, trees_nodes}
use Rattle.at_class.specs.TreeView.{tree_view, cell_view}
use Rattle.at_tree.proofs.tree.counts.+nodes.Given as goal

abbrev pub invariant-nodes-loop-cell : goal.invariant-nodes-loop-cell
invariant-nodes-loop-cell l = l.count ≡ min (1 + cells_nodes (to_cells (map cell_view (take l.cell-index l.cell-items)))) 18446744073709551615

abbrev pub invariant-list_nodes-loop-tree : goal.invariant-list_nodes-loop-tree
invariant-list_nodes-loop-tree l = l.count ≡ min (trees_nodes (to_trees (map tree_view (take l.tree-index l.trees)))) 18446744073709551615
