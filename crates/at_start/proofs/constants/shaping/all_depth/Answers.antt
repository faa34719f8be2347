use Rattle.std.proofs.Common.{arith}
use Rattle.at_tree.proofs.TreeLoops.{trees_depth-more}
use Rattle.at_start.proofs.constants.shaping.all_depth.Goals as goal

pub loop-tree-preserved : goal.loop-tree-preserved
loop-tree-preserved c =
    let more = trees_depth-more c.args.trees.now c.loop-tree.tree-index c.tree-item.result (omega arith) c.tree-item.is in
    omega (arith, more, c.loop-tree.invariant, c.depth.ensures, c.max-deepest.ensures)
