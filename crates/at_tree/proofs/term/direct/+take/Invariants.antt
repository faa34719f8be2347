use Rattle.std.proofs.Common.{◌+◌, ◌*◌, map, length}
use Rattle.at_tree.specs.View.{term_view, cell_view}
use Rattle.at_tree.proofs.TermFrontsLemmas.{HasCells, HasList}
use Rattle.at_tree.proofs.term.direct.+take.Given as goal

abbrev pub decreases-take_term : goal.decreases-take_term
decreases-take_term l = 4 * l.levels

abbrev pub decreases-take_list : goal.decreases-take_list
decreases-take_list l = 4 * l.levels + 1

abbrev pub decreases-take_cell : goal.decreases-take_cell
decreases-take_cell l = 4 * l.levels + 2

abbrev pub decreases-take_cells : goal.decreases-take_cells
decreases-take_cells l = 4 * l.levels + 3

abbrev pub invariant-take_cells-loop-alloc : goal.invariant-take_cells-loop-alloc
invariant-take_cells-loop-alloc l = HasCells l.fn.front.rest.now l.front.rest.now l.levels (map cell_view l.cells.items)

abbrev pub decreases-take_cells-loop-alloc : goal.decreases-take_cells-loop-alloc
decreases-take_cells-loop-alloc l = length l.front.rest.now

abbrev pub invariant-take_list-loop-alloc : goal.invariant-take_list-loop-alloc
invariant-take_list-loop-alloc l = HasList l.fn.front.rest.now l.front.rest.now l.levels (map term_view l.terms.items)

abbrev pub decreases-take_list-loop-alloc : goal.decreases-take_list-loop-alloc
decreases-take_list-loop-alloc l = length l.front.rest.now
