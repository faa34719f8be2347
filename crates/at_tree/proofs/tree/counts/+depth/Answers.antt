use Rattle.std.proofs.Common.{arith}
use Rattle.at_tree.proofs.TreeLoops.{cells_depth-more, trees_depth-more, depth-whole}
use Rattle.at_tree.proofs.tree.counts.+depth.Goals as goal

pub depth-loop-cell-preserved : goal.depth-loop-cell-preserved
depth-loop-cell-preserved t c =
    let more = cells_depth-more c.deref-cell-items.result.now c.loop-cell.cell-index c.cell-item.result (omega arith) c.cell-item.is in
    omega (arith, more, c.loop-cell.invariant, c.cell_depth.ensures, c.max-deepest.ensures)

pub list_depth-loop-tree-preserved : goal.list_depth-loop-tree-preserved
list_depth-loop-tree-preserved t c =
    let more = trees_depth-more c.args.trees.now c.loop-tree.tree-index c.tree-item.result (omega arith) c.tree-item.is in
    omega (arith, more, c.loop-tree.invariant, c.depth.ensures, c.max-deepest.ensures)

pub depth-returns : goal.depth-returns
depth-returns t c =
    let whole = depth-whole c.args.tree.now c.deref-cell-items.result.now c.loop-cell.cell-index (omega arith) c.deref-cell-items.ensures.value in
    omega (arith, whole, c.loop-cell.invariant, c.saturating_add.ensures)
