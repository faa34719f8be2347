use Rattle.std.proofs.Common.{◌≡◌, map, take}
use Rattle.at_class.specs.TreeView.{cell_view, tree_view}
use Rattle.at_class.proofs.tree.+copied.Given as goal

abbrev pub invariant-Tree::copied-loop-cell : goal.invariant-Tree::copied-loop-cell
invariant-Tree::copied-loop-cell l = map cell_view l.cells.items ≡ map cell_view (take l.cell-index l.cell-items)

abbrev pub invariant-copying::all_copied-loop-tree : goal.invariant-copying::all_copied-loop-tree
invariant-copying::all_copied-loop-tree l = map tree_view l.copies.items ≡ map tree_view (take l.tree-index l.trees)
