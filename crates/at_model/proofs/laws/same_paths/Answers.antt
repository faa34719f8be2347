use Rattle.at_model.proofs.Nodes.{node_eq-is}
use Rattle.at_model.proofs.laws.same_paths.Goals as goal

pub returns : goal.returns
returns c = node_eq-is
