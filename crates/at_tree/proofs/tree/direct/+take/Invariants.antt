use Rattle.std.proofs.Common.{◌+◌, ◌*◌, map, length}
use Rattle.at_class.specs.View.{part_view}
use Rattle.at_class.specs.TreeView.{tree_view, cell_view}
use Rattle.at_tree.proofs.FrontsLemmas.{HasCells, HasTrees}
use Rattle.at_tree.proofs.tree.direct.+take.Given as goal

abbrev pub decreases-take_tree : goal.decreases-take_tree
decreases-take_tree l = 5 * l.levels

abbrev pub decreases-take_list : goal.decreases-take_list
decreases-take_list l = 5 * l.levels + 1

abbrev pub decreases-take_optional : goal.decreases-take_optional
decreases-take_optional l = 5 * l.levels + 2

abbrev pub decreases-take_cell : goal.decreases-take_cell
decreases-take_cell l = 5 * l.levels + 3

abbrev pub decreases-take_cells : goal.decreases-take_cells
decreases-take_cells l = 5 * l.levels + 4

abbrev pub invariant-take_cells-loop-part : goal.invariant-take_cells-loop-part
invariant-take_cells-loop-part l = HasCells l.classes l.fn.front.rest.now l.front.rest.now (map part_view l.parts) l.levels l.part-index l.taken (map cell_view l.cells.items)

abbrev pub invariant-take_list-loop-alloc : goal.invariant-take_list-loop-alloc
invariant-take_list-loop-alloc l = HasTrees l.classes l.fn.front.rest.now l.front.rest.now l.under l.levels (map tree_view l.trees.items)

abbrev pub decreases-take_list-loop-alloc : goal.decreases-take_list-loop-alloc
decreases-take_list-loop-alloc l = length l.front.rest.now
