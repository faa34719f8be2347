use Rattle.std.proofs.Common.{◌≡◌, map, take}
use Rattle.at_model.specs.SyntaxTrees.{CellsAreTokens, TreesAreTokens, to_cells, to_trees}
use Rattle.at_class.specs.TreeView.{cell_view, tree_view}
use Rattle.at_class.proofs.tree.+written.Given as goal

abbrev pub invariant-Tree::written-loop-cell : goal.invariant-Tree::written-loop-cell
invariant-Tree::written-loop-cell l = (map cell_view l.cells.items ≡ map cell_view (take l.cell-index l.cell-items)) × CellsAreTokens (to_cells (map cell_view l.cells.items))

abbrev pub invariant-written::all_written-loop-tree : goal.invariant-written::all_written-loop-tree
invariant-written::all_written-loop-tree l = (map tree_view l.copies.items ≡ map tree_view (take l.tree-index l.trees)) × TreesAreTokens (to_trees (map tree_view l.copies.items))
