use Rattle.at_tree.proofs.TextLaws.{one_path_each}
use Rattle.at_tree.proofs.laws.one_path_each.Goals as goal

pub returns : goal.returns
returns c = one_path_each
