use Rattle.std.proofs.Common.{◌≡◌, ◌+◌, ◌*◌, ◌-◌, take, map}
use Rattle.at_tree.specs.TreeView.{cell_view, tree_view}
use Rattle.at_store.specs.Grown.{grown_cell, shown_below}
use Rattle.at_store.specs.View.{kept_view, memory_of}
use Rattle.at_store.proofs.walks.+copy.Given as goal

abbrev pub decreases-tree_at : goal.decreases-tree_at
decreases-tree_at l = 4 * l.levels

abbrev pub decreases-trees_at : goal.decreases-trees_at
decreases-trees_at l = 4 * l.levels + 1

abbrev pub decreases-kids_cell : goal.decreases-kids_cell
decreases-kids_cell l = 4 * l.levels + 2

abbrev pub decreases-cell_at : goal.decreases-cell_at
decreases-cell_at l = 4 * l.levels + 3

abbrev pub invariant-tree_at-loop-slot : goal.invariant-tree_at-loop-slot
invariant-tree_at-loop-slot l = map cell_view l.cells.items ≡ map (grown_cell (shown_below (memory_of l.slab) (l.levels - 1))) (map kept_view (take l.slot-index l.slot-items))

abbrev pub invariant-trees_at-loop-kid : goal.invariant-trees_at-loop-kid
invariant-trees_at-loop-kid l = map tree_view l.trees.items ≡ map (shown_below (memory_of l.slab) l.levels) (take l.kid-index l.kids)
