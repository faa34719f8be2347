use Rattle.std.proofs.Common.{arith}
use Rattle.at_tree.proofs.TreeLoops.{cells_nodes-more, trees_nodes-more, nodes-whole}
use Rattle.at_tree.proofs.tree.counts.+nodes.Goals as goal

pub nodes-loop-cell-preserved : goal.nodes-loop-cell-preserved
nodes-loop-cell-preserved t c =
    let more = cells_nodes-more c.deref-cell-items.result.now c.loop-cell.cell-index c.cell-item.result (omega arith) c.cell-item.is in
    omega (arith, more, c.loop-cell.invariant, c.cell_nodes.ensures, c.saturating_add-count.ensures)

pub list_nodes-loop-tree-preserved : goal.list_nodes-loop-tree-preserved
list_nodes-loop-tree-preserved t c =
    let more = trees_nodes-more c.args.trees.now c.loop-tree.tree-index c.tree-item.result (omega arith) c.tree-item.is in
    omega (arith, more, c.loop-tree.invariant, c.nodes.ensures, c.saturating_add-count.ensures)

pub nodes-returns : goal.nodes-returns
nodes-returns t c =
    let whole = nodes-whole c.args.tree.now c.deref-cell-items.result.now c.loop-cell.cell-index (omega arith) c.deref-cell-items.ensures.value in
    omega (arith, whole, c.loop-cell.invariant)
