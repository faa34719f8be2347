use Rattle.std.proofs.Common.{◌≡◌}
use Rattle.at_tree.proofs.TreeLoops.{rest_fits, rest_of_trees}
use Rattle.at_tree.proofs.tree.conforming.+fits.Given as goal

abbrev pub invariant-fits-loop-i : goal.invariant-fits-loop-i
invariant-fits-loop-i l = rest_fits l.classes l.cells l.parts 0 ≡ rest_fits l.classes l.cells l.parts l.i

abbrev pub invariant-all_fit-loop-tree : goal.invariant-all_fit-loop-tree
invariant-all_fit-loop-tree l = rest_of_trees l.classes l.trees l.under 0 ≡ rest_of_trees l.classes l.trees l.under l.tree-index
