use Rattle.std.proofs.Common.{◌≡◌, map, take}
use Rattle.std.specs.Prelude.{min}
use Rattle.at_model.specs.Trees.{to_cells, to_trees, cells_depth, trees_depth}
use Rattle.at_class.specs.TreeView.{tree_view, cell_view}
use Rattle.at_tree.proofs.tree.counts.+depth.Given as goal

abbrev pub invariant-depth-loop-cell : goal.invariant-depth-loop-cell
invariant-depth-loop-cell l = l.deepest ≡ min (cells_depth (to_cells (map cell_view (take l.cell-index l.cell-items)))) 18446744073709551615

abbrev pub invariant-list_depth-loop-tree : goal.invariant-list_depth-loop-tree
invariant-list_depth-loop-tree l = l.deepest ≡ min (trees_depth (to_trees (map tree_view (take l.tree-index l.trees)))) 18446744073709551615
