use Rattle.std.proofs.Common.{◌≡◌, drop, map}
use Rattle.at_model.specs.SyntaxTrees.{cells_eq, to_cells, to_trees, trees_eq}
use Rattle.at_class.specs.TreeView.{cell_view, tree_view}
use Rattle.at_class.proofs.tree.+same.Given as goal

abbrev pub invariant-comparing::cells_same-loop-i : goal.invariant-comparing::cells_same-loop-i
invariant-comparing::cells_same-loop-i l =
    cells_eq (to_cells (map cell_view l.cells)) (to_cells (map cell_view l.others)) ≡ cells_eq (to_cells (map cell_view (drop l.i l.cells))) (to_cells (map cell_view (drop l.i l.others)))

abbrev pub invariant-comparing::trees_same-loop-i : goal.invariant-comparing::trees_same-loop-i
invariant-comparing::trees_same-loop-i l =
    trees_eq (to_trees (map tree_view l.trees)) (to_trees (map tree_view l.others)) ≡ trees_eq (to_trees (map tree_view (drop l.i l.trees))) (to_trees (map tree_view (drop l.i l.others)))
