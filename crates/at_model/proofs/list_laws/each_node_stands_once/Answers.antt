use Rattle.at_model.proofs.of_lists.EachOnce.{each_once}
use Rattle.at_model.proofs.list_laws.each_node_stands_once.Goals as goal

pub returns : goal.returns
returns c = λ rules look i v. each_once rules look i v
