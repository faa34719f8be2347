use Rattle.std.proofs.Common.{◌≡◌, ◌≤◌, map}
use Rattle.std.specs.Option.{option_map}
use Rattle.at_class.specs.View.{part_view}
use Rattle.at_class.specs.TreeView.{tree_view, cell_view}
use Rattle.at_tree.specs.Shape.{parts_shaped}
use Rattle.at_tree.specs.View.{to_cells, cell_view as term_cell_view}
use Rattle.at_tree.proofs.Shaping.{parts_from, trees_from, onto_cells, onto_trees}
use Rattle.at_tree.proofs.tree.shaping.+shape.Given as goal

abbrev pub invariant-shape_cells-loop-part : goal.invariant-shape_cells-loop-part
invariant-shape_cells-loop-part l =
    (parts_shaped l.classes (to_cells (map term_cell_view l.written)) (map part_view l.parts)
    ≡ option_map (onto_cells (map cell_view l.cells.items)) (parts_from l.classes l.written l.parts l.taken l.part-index))
    × (l.taken ≤ l.part-index)

abbrev pub invariant-shape_list-loop-term : goal.invariant-shape_list-loop-term
invariant-shape_list-loop-term l = trees_from l.classes l.terms l.under 0 ≡ option_map (onto_trees (map tree_view l.trees.items)) (trees_from l.classes l.terms l.under l.term-index)
