use Rattle.at_model.proofs.Depths.{node_depth, within_depth}
use Rattle.at_model.proofs.evaluation_laws.a_node_is_within_the_depth.Goals as goal

pub returns-clause-tree : goal.returns-clause-tree
returns-clause-tree c = node_depth

pub returns-clause-limit : goal.returns-clause-limit
returns-clause-limit c = within_depth
