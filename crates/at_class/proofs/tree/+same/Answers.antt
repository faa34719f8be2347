use Rattle.std.proofs.Common.{sym}
use Rattle.at_class.proofs.Comparing.{other_cells, other_trees}
use Rattle.at_class.proofs.tree.+same.Goals as goal

pub comparing::cells_same-returns-then-cells-others : goal.comparing::cells_same-returns-then-cells-others
comparing::cells_same-returns-then-cells-others t c = sym (other_cells c.args.cells.now c.args.others.now c.if-cells-others.true)

pub comparing::trees_same-returns-then-trees-others : goal.comparing::trees_same-returns-then-trees-others
comparing::trees_same-returns-then-trees-others t c = sym (other_trees c.args.trees.now c.args.others.now c.if-trees-others.true)
