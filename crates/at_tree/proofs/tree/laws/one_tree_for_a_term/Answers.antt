use Rattle.at_tree.proofs.ShapeLaws.{one_tree}
use Rattle.at_tree.proofs.tree.laws.one_tree_for_a_term.Goals as goal

pub returns : goal.returns
returns c = one_tree
